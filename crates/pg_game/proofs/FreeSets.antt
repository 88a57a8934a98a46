-- The free points as a set.
use Rattle.std.proofs.Common.{◌≡◌, ℕ, zero, suc, ◌+◌, ◌<◌, Bool, true, false, not, ◌&&◌, ltb}
use Rattle.std.proofs.Common.{if◌then◌else◌, List, [], ◌∷◌, Some, None, length, refl, sym, ap, ◌∙◌}
use Rattle.std.proofs.Common.{inl, inr, arith}
use Rattle.pg_game.proofs.Common.{cases_Bool, and_parts, lt-ltb, ltb-true, is_none, find, FinSet}
use Rattle.pg_game.proofs.Common.{contains, len, nat_cmp, AreBelow, count, one_if, count_same}
use Rattle.pg_base.proofs.PointSetLaws.{len-count}
use Rattle.pg_game.specs.declared.game.Game.{Game}
use Rattle.pg_game.specs.declared.position.Position.{Position}
use Rattle.pg_game.specs.Position.{is_free}
use Rattle.pg_game.specs.Game.{point_count, free_points, is_empty}
use Rattle.pg_game.proofs.FreeCounts.{passed, passed-none, passed-more, passed-same, passed-all}

pub regrouped : (a b c : Bool) → ((a && b) && c) ≡ (a && (b && c))
regrouped true b c = refl
regrouped false b c = refl

one-more : (t : ℕ → Bool) (n k : ℕ) → k ≡ passed t n → one_if (t n) + k ≡ passed t (n + 1)
one-more t n k is = elim (cases_Bool (t n)) [
  | inl on ↦ rw on (passed-more t n k (1 + k) is on (omega arith))
  | inr off ↦ rw off (passed-same t n k (0 + k) is off (omega arith))
]

-- numbers below n that pass, counted downwards and in a list
pub count-passed : (t : ℕ → Bool) (n : ℕ) → count t n ≡ passed t n
unfolding count
count-passed t zero = sym (passed-none t)
count-passed t (suc n) =
    let next : n + 1 ≡ suc n = omega arith in
    one-more t n (count t n) (count-passed t n) ∙ ap (passed t) next

-- a set of the free points has as many members as the list
pub len-free_points : (g : Game) (p : Position) (s : FinSet nat_cmp)
    → ((v : ℕ) → contains s v ≡ (ltb v (point_count g) && is_free p v))
    → len s ≡ length (free_points g p)
len-free_points g p s each =
    let below : AreBelow s (point_count g) =
    λ v on. ltb-true v (point_count g) (and_parts _ _ (sym (each v) ∙ on)).0 in
    len-count s (point_count g) below
    ∙ count_same (contains s) (is_free p) (point_count g)
    (λ v lt. each v ∙ ap (λ b. b && is_free p v) (lt-ltb v (point_count g) lt))
    ∙ count-passed (is_free p) (point_count g)
    ∙ passed-all g p (point_count g) refl
