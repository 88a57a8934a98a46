-- Laws of sets of points: as tests, by their members, and how sets lie to one another.
use Rattle.std.proofs.Common.{◌≡◌, ◌≢◌, ℕ, zero, suc, ◌+◌, ◌<◌, ◌≤◌, Bool, true, false, not, ◌&&◌}
use Rattle.std.proofs.Common.{◌||◌, eqb, refl, sym, ap, ◌∙◌, ◌⊎◌, inl, inr, eq-eqb, ne_eqb}
use Rattle.std.proofs.Common.{arith, cond}
use Rattle.pg_base.proofs.Common.{fun_ext, cases_eq, cases_Bool, or_cases, or_left, or_right}
use Rattle.pg_base.proofs.Common.{and_parts, both_ways, eqb-true, false_from_ne_true, FinSet}
use Rattle.pg_base.proofs.Common.{contains, empty, insert, remove, union, difference, len}
use Rattle.pg_base.proofs.Common.{contains-empty, contains-union, contains-difference, len-insert}
use Rattle.pg_base.proofs.Common.{len-empty, nat_cmp_total, nat_cmp}
use Rattle.pg_base.specs.WordLemmas.{in_insert, in_remove, same_points}
use Rattle.pg_base.specs.PointLemmas.{equal, equal-decides}
use Rattle.pg_base.specs.Points.{AreBelow}
use Rattle.pg_base.specs.Sets.{plus, minus, either, outside, count}
use Rattle.pg_base.proofs.SetLemmas.{count_same, one_if_le}

or_comm : (a b : Bool) → (a || b) ≡ (b || a)
or_comm true true = refl
or_comm true false = refl
or_comm false true = refl
or_comm false false = refl

and_comm : (a b : Bool) → (a && b) ≡ (b && a)
and_comm true true = refl
and_comm true false = refl
and_comm false true = refl
and_comm false false = refl

eqb_comm : (a b : ℕ) → eqb a b ≡ eqb b a
eqb_comm a b = elim (cases_eq a b) [
  | inl e ↦ eq-eqb a b e ∙ sym (eq-eqb b a (sym e))
  | inr ne ↦ ne_eqb a b ne ∙ sym (ne_eqb b a (λ e. ne (sym e)))
]

-- a set with one point more is the test with one number more
pub contains-insert_plus : (s : FinSet nat_cmp) (i : ℕ)
    → contains (insert s i) ≡ plus (contains s) i
unfolding plus
contains-insert_plus s i = fun_ext (λ q. in_insert s i q ∙ or_comm (eqb q i) (contains s q)
    ∙ ap (λ b. contains s q || b) (eqb_comm q i))

-- a set with one point less is the test with one number less
pub contains-remove_minus : (s : FinSet nat_cmp) (i : ℕ)
    → contains (remove s i) ≡ minus (contains s) i
unfolding minus
contains-remove_minus s i = fun_ext (λ q. in_remove s i q
    ∙ and_comm (not (eqb q i)) (contains s q)
    ∙ ap (λ b. contains s q && not b) (eqb_comm q i))

-- both sets' points are the test of either
pub contains-union_either : (s t : FinSet nat_cmp)
    → contains (union s t) ≡ either (contains s) (contains t)
unfolding either
contains-union_either s t = fun_ext (λ q. contains-union nat_cmp_total s t q)

-- the points of one set without the other's are the test of outside
pub contains-difference_outside : (s t : FinSet nat_cmp)
    → contains (difference s t) ≡ outside (contains s) (contains t)
unfolding outside
contains-difference_outside s t = fun_ext (λ q. contains-difference nat_cmp_total s t q)

-- ---- what `==` of sets says

pub same_from_equal : (s t : FinSet nat_cmp) → equal s t ≡ true → s ≡ t
same_from_equal s t h = (equal-decides s t).0 h

pub equal_from_same : (s t : FinSet nat_cmp) → s ≡ t → equal s t ≡ true
equal_from_same s t h = (equal-decides s t).1 h

pub ruleset set_equality = (same_from_equal, equal_from_same)

-- ---- members of a set with one point more, or one less

pub insert-self : (s : FinSet nat_cmp) (v : ℕ) → contains (insert s v) v ≡ true
insert-self s v = in_insert s v v ∙ or_left (eqb v v) (contains s v) (eq-eqb v v refl)

pub insert-old : (s : FinSet nat_cmp) (v q : ℕ)
    → contains s q ≡ true
    → contains (insert s v) q ≡ true
insert-old s v q h = in_insert s v q ∙ or_right (eqb q v) (contains s q) h

pub insert-other : (s : FinSet nat_cmp) (v q : ℕ) → q ≢ v → contains (insert s v) q ≡ contains s q
insert-other s v q ne = in_insert s v q ∙ ap (λ b. b || contains s q) (ne_eqb q v ne)

pub insert-cases : (s : FinSet nat_cmp) (v q : ℕ)
    → contains (insert s v) q ≡ true
    → (q ≡ v) ⊎ (contains s q ≡ true)
insert-cases s v q h = elim (or_cases (eqb q v) (contains s q) (sym (in_insert s v q) ∙ h)) [
  | inl e ↦ inl (eqb-true q v e)
  | inr old ↦ inr old
]

pub remove-self : (s : FinSet nat_cmp) (v : ℕ) → contains (remove s v) v ≡ false
remove-self s v = in_remove s v v ∙ ap (λ b. not b && contains s v) (eq-eqb v v refl)

pub remove-other : (s : FinSet nat_cmp) (v q : ℕ) → q ≢ v → contains (remove s v) q ≡ contains s q
remove-other s v q ne = in_remove s v q ∙ ap (λ b. not b && contains s q) (ne_eqb q v ne)

pub remove-old : (s : FinSet nat_cmp) (v q : ℕ)
    → contains (remove s v) q ≡ true
    → contains s q ≡ true
remove-old s v q h = (and_parts (not (eqb q v)) (contains s q) (sym (in_remove s v q) ∙ h)).1

pub ruleset set_members =
    (insert-self, insert-old, insert-other, insert-cases, remove-self, remove-other, remove-old)

-- a point taken, and put again
pub insert-remove : (s : FinSet nat_cmp) (v : ℕ) → contains s v ≡ true → insert (remove s v) v ≡ s
insert-remove s v here = same_points _ _ (λ q. elim (cases_eq q v) [
  | inl e ↦ rw e (insert-self (remove s v) v ∙ sym here)
  | inr ne ↦ insert-other (remove s v) v q ne ∙ remove-other s v q ne
])

-- ---- sets below a limit

pub AreBelow-empty : (n : ℕ) → AreBelow empty n
AreBelow-empty n v here = absurd (both_ways _ (contains-empty nat_cmp v) here)

pub AreBelow-insert : (s : FinSet nat_cmp) (v n : ℕ)
    → AreBelow s n
    → v < n
    → AreBelow (insert s v) n
AreBelow-insert s v n below fit q here = elim (insert-cases s v q here) [
  | inl e ↦ omega arith
  | inr old ↦ below q old
]

-- ---- how many points a set has

-- a set's points are the numbers below its limit that pass its test
pub len-count : (s : FinSet nat_cmp) (n : ℕ) → AreBelow s n → len s ≡ count (contains s) n
unfolding count
len-count s zero below = ap len (same_points s empty
    (λ q. false_from_ne_true (contains s q) (λ here. let none : q < 0 = below q here in omega arith)
    ∙ sym (contains-empty nat_cmp q)))
    ∙ len-empty nat_cmp
len-count s (suc n) below = elim (cases_Bool (contains s n)) [
  | inr off ↦
      let lower : AreBelow s n = λ q here. elim (cases_eq q n) [
        | inl e ↦ absurd (both_ways _ off (ap (contains s) (sym e) ∙ here))
        | inr ne ↦ let below_next : q < suc n = below q here in omega arith
      ] in
      let fewer = len-count s n lower in rw off (omega (arith, fewer))
  | inl on ↦
      let rest = remove s n in
      let lower : AreBelow rest n = λ q here. elim (cases_eq q n) [
        | inl e ↦ absurd (both_ways _ (remove-self s n) (ap (contains rest) (sym e) ∙ here))
        | inr ne ↦ let below_next : q < suc n = below q (remove-old s n q here) in omega arith
      ] in
      let more : len s ≡ len rest + 1 = ap len (sym (insert-remove s n on))
      ∙ len-insert nat_cmp_total rest n
      ∙ ap (λ b. cond b (len rest) (len rest + 1)) (remove-self s n) in
      let fewer : len rest ≡ count (contains rest) n = len-count rest n lower in
      let same : count (contains rest) n ≡ count (contains s) n =
      count_same (contains rest) (contains s) n (λ z lt. remove-other s n z (λ e. omega arith)) in
      rw on (omega (arith, more, fewer, same))
]

count-le : (a : ℕ → Bool) (n : ℕ) → count a n ≤ n
unfolding count
count-le a zero = omega arith
count-le a (suc n) =
    let here = one_if_le (a n) true (λ _. refl) in
    omega (arith, count-le a n, here)
