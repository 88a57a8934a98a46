-- The members of a set from a number on.
use Rattle.std.proofs.Common.{◌≡◌, ℕ, zero, suc, ◌+◌, ◌-◌, ◌<◌, ◌≤◌, Bool, true, false, []}
use Rattle.std.proofs.Common.{◌∷◌, refl, ap, ◌∙◌, arith, inl, inr}
use Rattle.std.specs.Prelude.{filter}
use Rattle.pg_base.proofs.Common.{range_with_len, FinSet, contains, nat_cmp, cases_lt}
use Rattle.pg_base.proofs.Common.{false_from_ne_true}
use Rattle.pg_base.specs.Points.{members, members_from, points_below, IsLeastFrom}

first_in : (p : ℕ → Bool) (a n v : ℕ)
    → a ≤ v
    → v < a + n
    → p v ≡ true
    → ((q : ℕ) → a ≤ q → p q ≡ true → v ≤ q)
    → filter p (range_with_len a n) ≡ v ∷ filter p (range_with_len (v + 1) (a + n - (v + 1)))
first_in p a zero v low high on least = absurd (omega arith)
first_in p a (suc n) v low high on least = elim (cases_lt a v) [
  | inl above ↦
      let off : p a ≡ false = false_from_ne_true (p a)
      (λ is. let le : v ≤ a = least a (omega arith) is in omega arith) in
      let others = first_in p (a + 1) n v (omega arith) (omega arith) on
      (λ q from. least q (omega arith)) in
      let left : a + 1 + n - (v + 1) ≡ a + suc n - (v + 1) = omega arith in
      rw off (others ∙ ap (λ m. v ∷ filter p (range_with_len (v + 1) m)) left)
  | inr below ↦
      let here : a ≡ v = omega arith in
      let first : p a ≡ true = ap p here ∙ on in
      let left : n ≡ a + suc n - (v + 1) = omega arith in
      rw first (ap (λ m. a ∷ filter p (range_with_len (a + 1) m)) left
      ∙ ap (λ q. q ∷ filter p (range_with_len (q + 1) (a + suc n - (v + 1)))) here)
]

none_in : (p : ℕ → Bool) (a n : ℕ)
    → ((q : ℕ) → a ≤ q → p q ≡ false)
    → filter p (range_with_len a n) ≡ []
none_in p a zero none = refl
none_in p a (suc n) none =
    rw (none a (omega arith)) (none_in p (a + 1) n (λ q from. none q (omega arith)))

-- the least of them comes first, and then those from the next number on
pub least_first : (s : FinSet nat_cmp) (n v : ℕ)
    → v < 1024
    → IsLeastFrom s n v
    → members_from s n ≡ v ∷ members_from s (v + 1)
unfolding members_from
least_first s n v few found =
    let above = found.above in
    let left : n + (1024 - n) - (v + 1) ≡ 1024 - (v + 1) = omega arith in
    first_in (contains s) n (1024 - n) v above (omega arith) found.member found.least
    ∙ ap (λ m. v ∷ filter (contains s) (range_with_len (v + 1) m)) left

pub none_from : (s : FinSet nat_cmp) (n : ℕ)
    → ((q : ℕ) → n ≤ q → contains s q ≡ false)
    → members_from s n ≡ []
unfolding members_from
none_from s n none = none_in (contains s) n (1024 - n) none

-- those from 0 on are all
pub from_zero : (s : FinSet nat_cmp) → members_from s 0 ≡ members s
unfolding members_from points_below
from_zero s = refl
