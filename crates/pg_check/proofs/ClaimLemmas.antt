-- Sound nodes and valid claims, one after the other.
use Rattle.std.proofs.Common.{◌≡◌, ◌∙◌, ℕ, ◌+◌, ◌<◌, ◌≤◌, List, length, Some, slice_get, sym, subst}
use Rattle.std.proofs.Common.{inl, inr, arith}
use Rattle.pg_check.proofs.Common.{cases_eq, slice_get_within}

-- what holds of every member before k, and of the member at k, holds of every member before k + 1
pub one_more : {A : Type 0} (P : ℕ → A → Type 0) (xs : List A) (k : ℕ) (x : A)
    → slice_get xs k ≡ Some x
    → P k x
    → ((j : ℕ) (y : A) → j < k → slice_get xs j ≡ Some y → P j y)
    → (j : ℕ) (y : A) → j < k + 1
    → slice_get xs j ≡ Some y
    → P j y
one_more P xs k x at here before j y lt there = elim (cases_eq j k) [
  | inl e ↦
      let same : Some x ≡ Some y = sym at ∙ subst (λ i. slice_get xs i ≡ Some y) e there in
      let same_x : x ≡ y = cc in
      subst (λ i. P i y) (sym e) (subst (λ z. P k z) same_x here)
  | inr ne ↦ before j y (omega (arith, lt, ne)) there
]

-- every member is before the end
pub up_to_end : {A : Type 0} (P : ℕ → A → Type 0) (xs items : List A) (k : ℕ)
    → items ≡ xs
    → length items ≤ k
    → ((j : ℕ) (y : A) → j < k → slice_get xs j ≡ Some y → P j y)
    → (j : ℕ) (y : A) → slice_get xs j ≡ Some y
    → P j y
up_to_end P xs items k e end before j y at =
    let within = slice_get_within xs j y at in
    let enough : length xs ≤ k = subst (λ ys. length ys ≤ k) e end in
    before j y (omega (arith, within, enough)) at
