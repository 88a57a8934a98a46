-- The laws of one step of what a list of positions settles.
use Rattle.std.proofs.Common.{◌≡◌, ℕ, zero, suc, ltb, ◌-◌, ◌<◌, Bool, true, false, Option, Some}
use Rattle.std.proofs.Common.{None, List, [], ◌∷◌, map, length, refl, sym, ap, ◌∙◌, inl, inr, arith}
use Rattle.std.proofs.Common.{if◌then◌else◌}
use Rattle.pg_game.proofs.Common.{cases_Bool, cond-true, cond-false, ltb-true, lt-ltb, Contains}
use Rattle.pg_game.proofs.Common.{option_or, Score}
use Rattle.std.proofs.lemmas.Option.{none-some}
use Rattle.pg_game.specs.declared.game.Game.{Game}
use Rattle.pg_game.specs.declared.position.Position.{Position}
use Rattle.pg_game.specs.Position.{is_free}
use Rattle.pg_game.specs.Game.{free_points, point_count, is_over, outcome, after}
use Rattle.pg_game.specs.Decided.{decided, first_criterion, at_least}
use Rattle.pg_game.specs.Settled.{by_moves, is_listed, settled, settled_within}
use Rattle.pg_game.proofs.FreePoints.{length-free_points-after, all-free_points}
use Rattle.pg_game.proofs.Members.{true-at, Contains-head, Contains-tail}
use Rattle.pg_game.proofs.Strategy.{free_point}

option_or-none : (o r : Option Bool) → o ≡ None → option_or o r ≡ r
option_or-none o r e = ap (λ (x : Option Bool). option_or x r) e

option_or-some : (o r : Option Bool) (b : Bool) → o ≡ Some b → option_or o r ≡ Some b
option_or-some o r b e = ap (λ (x : Option Bool). option_or x r) e

-- ---- the end

-- a position that is over is decided by the outcome
pub decided-over : (g : Game) (t : Score) (p : Position)
    → is_over g p ≡ true
    → decided g t p ≡ Some (at_least t (outcome g p))
unfolding decided first_criterion
decided-over g t p over = rw over refl

-- a position that isn't decided isn't over
pub undecided-going : (g : Game) (t : Score) (p : Position)
    → decided g t p ≡ None
    → is_over g p ≡ false
undecided-going g t p h = elim (cases_Bool (is_over g p)) [
  | inl over ↦ absurd (none-some (at_least t (outcome g p)) (sym h ∙ decided-over g t p over))
  | inr going ↦ going
]

-- ---- the free points

pub in_free_points : (g : Game) (p : Position) (v : ℕ)
    → Contains (free_points g p) v
    → (v < point_count g) × (is_free p v ≡ true)
in_free_points g p v c = (
  ltb-true v (point_count g)
      (true-at (λ q. ltb q (point_count g)) (free_points g p) v
      (all-free_points g p (λ q. ltb q (point_count g))
      (λ q range free. lt-ltb q (point_count g) range)) c),
  true-at (is_free p) (free_points g p) v
      (all-free_points g p (is_free p) (λ q range free. free)) c,
)

pub map-members : {X Y : Type 0} (f h : X → Y) (xs : List X)
    → ((x : X) → Contains xs x → f x ≡ h x)
    → map f xs ≡ map h xs
map-members f h [] each = refl
map-members f h (x ∷ xs) each =
    let first = each x (Contains-head x xs) in
    let rest = map-members f h xs (λ y c. each y (Contains-tail x y xs c)) in
    λ i. first i ∷ rest i

-- ---- settling by the rules

module _ (g : Game) (t : Score) (table : List Position) where
  within-decided : (moves : ℕ) (p : Position) (b : Bool)
      → decided g t p ≡ Some b
      → settled_within moves g t table p ≡ Some b
  unfolding settled_within
  within-decided zero p b h = h
  within-decided (suc moves) p b h = option_or-some (decided g t p) _ b h

  -- a criterion's answer settles
  pub settle-decided : (p : Position) (b : Bool)
      → decided g t p ≡ Some b
      → settled g t table p ≡ Some b
  unfolding settled
  settle-decided p b h = within-decided (length (free_points g p)) p b h

  within-step : (moves : ℕ) (p : Position)
      → decided g t p ≡ None
      → settled_within (suc moves) g t table p ≡ (if is_listed table p
      then by_moves p.turn
      (map (λ v. settled_within moves g t table (after g p v)) (free_points g p))
      else None)
  unfolding settled_within
  within-step moves p h = option_or-none (decided g t p) _ h

  settle-step : (p : Position)
      → decided g t p ≡ None
      → settled g t table p ≡ (if is_listed table p
      then by_moves p.turn (map (λ v. settled g t table (after g p v)) (free_points g p))
      else None)
  unfolding settled
  settle-step p h =
      let some = free_point g p (undecided-going g t p h) in
      let fewer = length-free_points-after g p some.0 some.1 some.2 in
      let moves = length (free_points g p) - 1 in
      let count : length (free_points g p) ≡ suc moves = omega arith in
      ap (λ m. settled_within m g t table p) count
      ∙ within-step moves p h
      ∙ ap (λ os. if is_listed table p then by_moves p.turn os else None)
      (map-members (λ v. settled_within moves g t table (after g p v))
      (λ v. settled_within (length (free_points g (after g p v))) g t table (after g p v))
      (free_points g p) (λ v c.
      let inside = in_free_points g p v c in
      let one = length-free_points-after g p v inside.0 inside.1 in
      let left : moves ≡ length (free_points g (after g p v)) = omega arith in
      ap (λ m. settled_within m g t table (after g p v)) left))

  -- an undecided member has what its moves give
  pub settle-listed : (p : Position)
      → decided g t p ≡ None
      → is_listed table p ≡ true
      → settled g t table p
      ≡ by_moves p.turn (map (λ v. settled g t table (after g p v)) (free_points g p))
  settle-listed p h listed = settle-step p h ∙ cond-true (is_listed table p) _ _ listed

  -- any other position has nothing
  pub settle-unlisted : (p : Position)
      → decided g t p ≡ None
      → is_listed table p ≡ false
      → settled g t table p ≡ None
  settle-unlisted p h unlisted = settle-step p h ∙ cond-false (is_listed table p) _ _ unlisted
