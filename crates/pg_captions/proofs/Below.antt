-- Whether a point below n is in a set.
use Rattle.std.proofs.Common.{◌≡◌, ◌∙◌, ℕ, ◌+◌, ◌<◌, ◌≤◌, true, false, inl, inr, arith, subst, sym}
use Rattle.std.proofs.Common.{get_or}
use Rattle.std.specs.Prelude.{nat_lt}
use Rattle.std.proofs.lemmas.Bool.{cases_Bool}
use Rattle.std.proofs.lemmas.Bool.Decides.{nat_tests}
use Rattle.pg_base.specs.Points.{IsLeastFrom}
use Rattle.pg_captions.proofs.Common.{FinSet, contains, nat_cmp, range_with_len}
use Rattle.pg_captions.proofs.Common.{get_or-range_with_len, length-range_with_len, list_any_at}
use Rattle.pg_captions.proofs.Common.{list_any_none}
use Rattle.pg_captions.specs.Marks.{has_below}

pub below_one : (s : FinSet nat_cmp) (n v : ℕ)
    → contains s v ≡ true
    → v < n
    → has_below s n ≡ true
below_one s n v member lt =
    let at : get_or (range_with_len 0 n) v 0 ≡ 0 + v = get_or-range_with_len 0 n v 0 lt in
    let here : get_or (range_with_len 0 n) v 0 ≡ v = omega (arith, at) in
    let count = length-range_with_len 0 n in
    list_any_at (contains s) (range_with_len 0 n) v 0 (omega (arith, count, lt))
    (subst (λ (u : ℕ). contains s u ≡ true) (sym here) member)

pub below_none : (s : FinSet nat_cmp) (n : ℕ)
    → ((q : ℕ) → q < n → contains s q ≡ false)
    → has_below s n ≡ false
below_none s n none = list_any_none (contains s) (range_with_len 0 n) (λ k d lt.
    let count = length-range_with_len 0 n in
    let low : k < n = omega (arith, count, lt) in
    let at : get_or (range_with_len 0 n) k d ≡ 0 + k = get_or-range_with_len 0 n k d low in
    let here : get_or (range_with_len 0 n) k d ≡ k = omega (arith, at) in
    subst (λ (u : ℕ). contains s u ≡ false) (sym here) (none k low))

not-below : (v n : ℕ) → nat_lt v n ≡ false → n ≤ v
not-below v n h = grind (arith, nat_tests)

is-below : (v n : ℕ) → nat_lt v n ≡ true → v < n
is-below v n h = grind (arith, nat_tests)

-- the least member tells
pub below_least : (s : FinSet nat_cmp) (n v : ℕ)
    → IsLeastFrom s 0 v
    → nat_lt v n ≡ has_below s n
below_least s n v is = elim (cases_Bool (nat_lt v n)) [
  | inl lt ↦ lt ∙ sym (below_one s n v is.member (is-below v n lt))
  | inr high ↦
      let far = not-below v n high in
      high ∙ sym (below_none s n (λ q low. elim (cases_Bool (contains s q)) [
        | inl on ↦
            let least = is.least q (omega arith) on in
            absurd (omega (arith, least, far, low))
        | inr off ↦ off
      ]))
]
