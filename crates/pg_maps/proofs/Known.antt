-- What the maps of lower numbers that fit tell of a map.
use Rattle.std.proofs.Common.{◌≡◌, ◌↔◌, ◌<◌, Bool, true, false, List, refl, sym, ap, ap₂, ◌∙◌}
use Rattle.std.proofs.Common.{subst, ◌&&◌}
use Rattle.pg_maps.proofs.Common.{and_parts, false≢true, Any-from_list_any, Contains, list_any}
use Rattle.pg_maps.proofs.Common.{Game, list_any-one}
use Rattle.std.proofs.Math.Bool.{beq}
use Rattle.pg_maps.specs.declared.grid_map.GridMap.{GridMap}
use Rattle.pg_maps.specs.contracts.grid_map.GridMapPartialEq.TheImpl.{ghosts}
use Rattle.pg_maps.specs.GridMaps.{number_of, followed_by, reverse_of}
use Rattle.pg_maps.specs.Images.{Fits, AreFitting}
use Rattle.pg_maps.proofs.Boards.{Fits-followed, Fits-reverse}
use Rattle.pg_maps.proofs.Numbers.{followed-associative, reverse-followed, identity-followed}

module _ (g : Game) (m : GridMap) (maps : List GridMap)
    (listed : AreFitting g (number_of m) maps) where
  -- what a map and then itself doesn't fit, it doesn't fit either
  pub untwice : number_of (followed_by m m) < number_of m
      → (Contains maps (followed_by m m) → ⊥)
      → Fits g m
      → ⊥
  untwice lower none fits =
      none (listed.all (followed_by m m) (Fits-followed g m m fits fits) lower)

  -- after one that fits a map fits exactly where both together do
  pub told : (a : GridMap)
      → Contains maps a
      → number_of (followed_by a m) < number_of m
      → Contains maps (followed_by a m) ↔ Fits g m
  told a member lower = (
    λ c. back (listed.fit (followed_by a m) c),
    λ fits. listed.all (followed_by a m) (Fits-followed g a m first fits) lower,
  )
    where
      first : Fits g a
      first = listed.fit a member

      back : Fits g (followed_by a m) → Fits g m
      back both = subst (Fits g)
          (sym (followed-associative (reverse_of a) a m)
          ∙ ap (λ b. followed_by b m) (reverse-followed a)
          ∙ identity-followed m)
          (Fits-followed g (reverse_of a) (followed_by a m) (Fits-reverse g a first) both)

-- the derived test for equality finds exactly what is listed
beq-itself : (b : Bool) → beq b b ≡ true
beq-itself true = refl
beq-itself false = refl

beq-same : (a b : Bool) → beq a b ≡ true → a ≡ b
beq-same true true on = refl
beq-same true false on = absurd (false≢true on)
beq-same false true on = absurd (false≢true on)
beq-same false false on = refl

pub listed-found : (maps : List GridMap) (m : GridMap)
    → Contains maps m
    → list_any (λ a. ghosts.eq a m) maps ≡ true
listed-found maps m member = list_any-one (λ a. ghosts.eq a m) maps m member
    (ap₂ (λ p q. p && q) (beq-itself m.exchange)
    (ap₂ (λ p q. p && q) (beq-itself m.rows) (beq-itself m.columns)))

pub found-listed : (maps : List GridMap) (m : GridMap)
    → list_any (λ a. ghosts.eq a m) maps ≡ true
    → Contains maps m
found-listed maps m found =
    let one = Any-from_list_any (λ a. ghosts.eq a m) maps found in
    subst (Contains maps) (same one.1 one.4) (one.0, one.2, one.3)
  where
    same : (a : GridMap) → ghosts.eq a m ≡ true → a ≡ m
    same a on =
        let parts = and_parts (beq a.exchange m.exchange) _ on in
        let others = and_parts (beq a.rows m.rows) (beq a.columns m.columns) parts.1 in
        λ i. record {
          exchange = beq-same a.exchange m.exchange parts.0 i;
          rows = beq-same a.rows m.rows others.0 i;
          columns = beq-same a.columns m.columns others.1 i;
        }
