-- Members of sets that are tests, and their counts.
use Rattle.std.proofs.Common.{◌≡◌, ℕ, Bool, true, false, not, ◌&&◌, ◌||◌, eqb, ◌⊎◌, inl, inr, refl}
use Rattle.std.proofs.Common.{arith, sym, ◌≢◌, ◌<◌, ◌≤◌, ◌+◌, suc, zero, ap, subst}
use Rattle.std.proofs.lemmas.Bool.{and_parts, or_cases, and_from, eqb-true, eqb-false, eq-eqb}
use Rattle.std.proofs.lemmas.Bool.{ne_eqb, not-true, not_from_false, or_left, or_right, cases_Bool}
use Rattle.std.proofs.lemmas.Bool.{cases_eq}
use Rattle.pg_base.specs.Sets.{plus, minus, both, either, outside, count, one_if}

pub plus_same : (a : ℕ → Bool) (x z : ℕ) → x ≢ z → plus a x z ≡ a z
unfolding plus
plus_same a x z d = rw (ne_eqb x z d) (elim (cases_Bool (a z)) [ inl t ↦ rw t | inr f ↦ rw f ])

pub minus_same : (a : ℕ → Bool) (x z : ℕ) → x ≢ z → minus a x z ≡ a z
unfolding minus
minus_same a x z d = rw (ne_eqb x z d) (elim (cases_Bool (a z)) [ inl t ↦ rw t | inr f ↦ rw f ])

pub minus_self : (a : ℕ → Bool) (x : ℕ) → minus a x x ≡ false
unfolding minus
minus_self a x = rw (eq-eqb x x refl) (elim (cases_Bool (a x)) [ inl t ↦ rw t | inr f ↦ rw f ])

pub minus_parts : (a : ℕ → Bool) (y z : ℕ) → minus a y z ≡ true → (a z ≡ true) × (y ≢ z)
unfolding minus
minus_parts a y z h =
    let p = and_parts (a z) (not (eqb y z)) h in
    (p.0, eqb-false y z (not-true (eqb y z) p.1))

pub minus_from : (a : ℕ → Bool) (y z : ℕ) → a z ≡ true → y ≢ z → minus a y z ≡ true
unfolding minus
minus_from a y z h n = and_from (a z) (not (eqb y z)) h (not_from_false (eqb y z) (ne_eqb y z n))

pub plus_cases : (a : ℕ → Bool) (x z : ℕ) → plus a x z ≡ true → (a z ≡ true) ⊎ (x ≡ z)
unfolding plus
plus_cases a x z h = elim (or_cases (a z) (eqb x z) h) [
  | inl p ↦ inl p
  | inr q ↦ inr (eqb-true x z q)
]

pub plus_old : (a : ℕ → Bool) (x z : ℕ) → a z ≡ true → plus a x z ≡ true
unfolding plus
plus_old a x z h = or_left (a z) (eqb x z) h

pub plus_new : (a : ℕ → Bool) (x z : ℕ) → x ≡ z → plus a x z ≡ true
unfolding plus
plus_new a x z e = or_right (a z) (eqb x z) (eq-eqb x z e)

pub both_parts : (a b : ℕ → Bool) (z : ℕ) → both a b z ≡ true → (a z ≡ true) × (b z ≡ true)
unfolding both
both_parts a b z h = and_parts (a z) (b z) h

pub both_from : (a b : ℕ → Bool) (z : ℕ) → a z ≡ true → b z ≡ true → both a b z ≡ true
unfolding both
both_from a b z p q = and_from (a z) (b z) p q

pub either_cases : (a b : ℕ → Bool) (z : ℕ) → either a b z ≡ true → (a z ≡ true) ⊎ (b z ≡ true)
unfolding either
either_cases a b z h = or_cases (a z) (b z) h

pub either_left : (a b : ℕ → Bool) (z : ℕ) → a z ≡ true → either a b z ≡ true
unfolding either
either_left a b z h = or_left (a z) (b z) h

pub either_right : (a b : ℕ → Bool) (z : ℕ) → b z ≡ true → either a b z ≡ true
unfolding either
either_right a b z h = or_right (a z) (b z) h

pub outside_parts : (a b : ℕ → Bool) (z : ℕ) → outside a b z ≡ true → (a z ≡ true) × (b z ≡ false)
unfolding outside
outside_parts a b z h = let p = and_parts (a z) (not (b z)) h in (p.0, not-true (b z) p.1)

pub outside_from : (a b : ℕ → Bool) (z : ℕ) → a z ≡ true → b z ≡ false → outside a b z ≡ true
unfolding outside
outside_from a b z p q = and_from (a z) (not (b z)) p (not_from_false (b z) q)

pub ruleset sets = (
  minus_parts,
  minus_from,
  plus_cases,
  plus_old,
  plus_new,
  both_parts,
  both_from,
  either_cases,
  either_left,
  either_right,
  outside_parts,
  outside_from,
)

pub plus_minus : (a : ℕ → Bool) (y z : ℕ) → a y ≡ true → plus (minus a y) y z ≡ a z
plus_minus a y z t =
    elim (cases_eq y z) [
      | inl e ↦
          let p : plus (minus a y) y z ≡ true = plus_new (minus a y) y z e in
          let q : a z ≡ true = subst (λ k. a k ≡ true) e t in
          cc
      | inr d ↦
          let p : plus (minus a y) y z ≡ minus a y z = plus_same (minus a y) y z d in
          let q : minus a y z ≡ a z = minus_same a y z d in
          cc
    ]

pub both_either_at : (a b : ℕ → Bool) (z : ℕ)
    → one_if (both a b z) + one_if (either a b z) ≡ one_if (a z) + one_if (b z)
unfolding both either
both_either_at a b z = by_values (a z) (b z)
  where
    by_values : (p q : Bool) → one_if (p && q) + one_if (p || q) ≡ one_if p + one_if q
    by_values true true = refl
    by_values true false = refl
    by_values false true = refl
    by_values false false = refl

-- either a number below n passes the test, or none does
pub find_below : (p : ℕ → Bool) (n : ℕ)
    → ((y : ℕ) × (y < n) × (p y ≡ true)) ⊎ ((y : ℕ) → y < n → p y ≡ false)
find_below p zero = inr (λ y h. absurd (omega arith))
find_below p (suc n) =
    elim (cases_Bool (p n)) [
      | inl t ↦ inl (n, omega arith, t)
      | inr f ↦ elim (find_below p n) [
        | inl w ↦ inl (w.0, omega arith, w.2)
        | inr none ↦ inr (λ y h. elim (cases_eq y n) [
          | inl e ↦ subst (λ k. p k ≡ false) (sym e) f
          | inr d ↦ none y (omega arith)
        ])
      ]
    ]

pub count_same : (a b : ℕ → Bool) (n : ℕ) → ((z : ℕ) → z < n → a z ≡ b z) → count a n ≡ count b n
unfolding count
count_same a b zero h = refl
count_same a b (suc n) h =
    let e : a n ≡ b n = h n (omega arith) in
    let r : count a n ≡ count b n = count_same a b n (λ z l. h z (omega arith)) in
    rw (e, r)

pub one_if-true : (b : Bool) → b ≡ true → one_if b ≡ 1
one_if-true true e = refl
one_if-true false e = cc

pub one_if-false : (b : Bool) → b ≡ false → one_if b ≡ 0
one_if-false false e = refl
one_if-false true e = cc

pub one_if_le : (p q : Bool) → (p ≡ true → q ≡ true) → one_if p ≤ one_if q
one_if_le true q h = rw (h refl) (omega arith)
one_if_le false q h = omega arith

pub count_le : (a b : ℕ → Bool) (n : ℕ)
    → ((z : ℕ) → z < n → a z ≡ true → b z ≡ true)
    → count a n ≤ count b n
unfolding count
count_le a b zero h = omega arith
count_le a b (suc n) h =
    let here : one_if (a n) ≤ one_if (b n) = one_if_le (a n) (b n) (h n (omega arith)) in
    let less : count a n ≤ count b n = count_le a b n (λ z l. h z (omega arith)) in
    omega arith

pub count_plus : (a : ℕ → Bool) (x n : ℕ) → a x ≡ false → x < n → count (plus a x) n ≡ count a n + 1
unfolding count
count_plus a x zero f l = absurd (omega arith)
count_plus a x (suc n) f l =
    elim (cases_eq x n) [
      | inl e ↦
          let p : one_if (plus a x n) ≡ 1 = one_if-true (plus a x n) (plus_new a x n e) in
          let q : one_if (a n) ≡ 0 = one_if-false (a n) (subst (λ k. a k ≡ false) e f) in
          let r : count (plus a x) n ≡ count a n =
          count_same (plus a x) a n (λ z k. plus_same a x z (omega arith)) in
          omega arith
      | inr d ↦
          let p : plus a x n ≡ a n = plus_same a x n d in
          let q : one_if (plus a x n) ≡ one_if (a n) = ap one_if p in
          let r : count (plus a x) n ≡ count a n + 1 = count_plus a x n f (omega arith) in
          omega arith
    ]

pub count_minus : (a : ℕ → Bool) (y n : ℕ)
    → a y ≡ true
    → y < n
    → count (minus a y) n + 1 ≡ count a n
count_minus a y n t l =
    let back : count (plus (minus a y) y) n ≡ count a n =
    count_same (plus (minus a y) y) a n (λ z k. plus_minus a y z t) in
    let more : count (plus (minus a y) y) n ≡ count (minus a y) n + 1 =
    count_plus (minus a y) y n (minus_self a y) l in
    omega arith

pub count_both_either : (a b : ℕ → Bool) (n : ℕ)
    → count (both a b) n + count (either a b) n ≡ count a n + count b n
unfolding count
count_both_either a b zero = refl
count_both_either a b (suc n) =
    let here : one_if (both a b n) + one_if (either a b n) ≡ one_if (a n) + one_if (b n) =
    both_either_at a b n in
    let rest : count (both a b) n + count (either a b) n ≡ count a n + count b n =
    count_both_either a b n in
    omega arith
