-- The members of a set in ascending order.
use Rattle.std.proofs.Common.{◌≡◌, ◌≢◌, ℕ, zero, suc, ◌+◌, ◌<◌, ◌≤◌, Bool, true, false, ◌&&◌}
use Rattle.std.proofs.Common.{length, refl, sym, ap, ◌∙◌, arith, ltb, inl, inr}
use Rattle.std.specs.Prelude.{nat_lt, nat_eq, nat_le, filter}
use Rattle.pg_base.proofs.Common.{list_any, range_with_len, AllByRecursion, IsStrictlyIncreasing}
use Rattle.pg_base.proofs.Common.{FinSet, contains, from_list, contains-from_list_nat, nat_cmp}
use Rattle.pg_base.proofs.Common.{cases_Bool, cases_eq, eq-eqb, ne_eqb, and_right, nat_tests}
use Rattle.pg_base.proofs.Common.{length-filter, count_by-le-length}
use Rattle.pg_base.proofs.Common.{IsStrictlyIncreasing-filter, length-range_with_len}
use Rattle.pg_base.proofs.Common.{get_or-range_with_len}
use Rattle.pg_base.specs.Points.{points_below, AreBelow}
use Rattle.pg_base.specs.WordLemmas.{same_points}

-- ---- what they are

each_from : (P : ℕ → Type 0) (p : ℕ → Bool) (a n : ℕ)
    → ((q : ℕ) → p q ≡ true → q < a + n → P q)
    → AllByRecursion P (filter p (range_with_len a n))
each_from P p a zero h = tt
each_from P p a (suc n) h =
    let others = each_from P p (a + 1) n (λ q on lt. h q on (omega arith)) in
    elim (cases_Bool (p a)) [
      | inl on ↦ rw on (h a on (omega arith), others)
      | inr off ↦ rw off others
    ]

-- what holds of the members below the limit holds of each of the list
pub points_below-each : (P : ℕ → Type 0) (s : FinSet nat_cmp) (n : ℕ)
    → ((q : ℕ) → contains s q ≡ true → q < n → P q)
    → AllByRecursion P (points_below s n)
unfolding points_below
points_below-each P s n h = each_from P (contains s) 0 n (λ q on lt. h q on (omega arith))

pub points_below-small : (s : FinSet nat_cmp) (n : ℕ)
    → AllByRecursion (λ p. p < n) (points_below s n)
points_below-small s n = points_below-each (λ p. p < n) s n (λ q on lt. lt)

IsStrictlyIncreasing-range : (a n : ℕ) → IsStrictlyIncreasing (range_with_len a n)
IsStrictlyIncreasing-range a n = λ k h.
    let len = length-range_with_len a n in
    let here = get_or-range_with_len a n k 0 (omega arith) in
    let next = get_or-range_with_len a n (k + 1) 0 (omega arith) in
    omega arith

pub points_below-ascend : (s : FinSet nat_cmp) (n : ℕ) → IsStrictlyIncreasing (points_below s n)
unfolding points_below
points_below-ascend s n =
    IsStrictlyIncreasing-filter (contains s) (range_with_len 0 n) (IsStrictlyIncreasing-range 0 n)

pub points_below-length : (s : FinSet nat_cmp) (n : ℕ) → length (points_below s n) ≤ n
unfolding points_below
points_below-length s n = omega (
  arith,
  length-filter (contains s) (range_with_len 0 n),
  count_by-le-length (contains s) (range_with_len 0 n),
  length-range_with_len 0 n,
)

-- ---- which numbers are there

in_range_end : (a q : ℕ) → (nat_le a q && nat_lt q (a + 0)) ≡ false
in_range_end a q = grind (arith, nat_tests)

in_range_here : (a n : ℕ) → (nat_le a a && nat_lt a (a + suc n)) ≡ true
in_range_here a n = grind (arith, nat_tests)

in_range_more : (a n q : ℕ)
    → q ≢ a
    → (nat_le (a + 1) q && nat_lt q (a + 1 + n)) ≡ (nat_le a q && nat_lt q (a + suc n))
in_range_more a n q apart = grind (arith, nat_tests)

has-filter-range : (p : ℕ → Bool) (a n q : ℕ)
    → list_any (λ y. nat_eq y q) (filter p (range_with_len a n))
    ≡ (p q && (nat_le a q && nat_lt q (a + n)))
has-filter-range p a zero q = rw (in_range_end a q) (sym (and_right (p q) false refl))
has-filter-range p a (suc n) q =
    let later = has-filter-range p (a + 1) n q in
    elim (cases_eq q a) [
      | inl here ↦ elim (cases_Bool (p a)) [
        | inl on ↦ rw (here, on, in_range_here a n, eq-eqb a a refl) refl
        | inr off ↦ let none : p q ≡ false = ap p here ∙ off in rw (off, later, none) refl
      ]
      | inr apart ↦ elim (cases_Bool (p a)) [
        | inl on ↦ rw (on, ne_eqb a q (λ e. apart (sym e)), later)
            (ap (λ b. p q && b) (in_range_more a n q apart))
        | inr off ↦ rw (off, later) (ap (λ b. p q && b) (in_range_more a n q apart))
      ]
    ]

-- whether a number is in the list
pub has-points_below : (s : FinSet nat_cmp) (n q : ℕ)
    → list_any (λ y. nat_eq y q) (points_below s n) ≡ (contains s q && nat_lt q n)
unfolding points_below
has-points_below s n q =
    let from_zero : (nat_le 0 q && nat_lt q (0 + n)) ≡ nat_lt q n = grind (arith, nat_tests) in
    has-filter-range (contains s) 0 n q ∙ ap (λ b. contains s q && b) from_zero

-- the members of a set of numbers below the limit make it up
pub from_list-points_below : (s : FinSet nat_cmp) (n : ℕ)
    → AreBelow s n
    → from_list {R = nat_cmp} (points_below s n) ≡ s
from_list-points_below s n below = same_points (from_list (points_below s n)) s
    (λ q. contains-from_list_nat (points_below s n) q ∙ has-points_below s n q ∙ inside q)
  where
    inside : (q : ℕ) → (contains s q && nat_lt q n) ≡ contains s q
    inside q = elim (cases_Bool (contains s q)) [
      | inl on ↦
          let lt = below q on in
          rw on (let t : ltb q n ≡ true = grind (arith, nat_tests) in t)
      | inr off ↦ rw off refl
    ]
