-- The first member of a list that passes a test, and the nearest number that passes.
use Rattle.std.proofs.Common.{◌≡◌, ℕ, zero, suc, ◌+◌, ◌<◌, ◌≤◌, Bool, true, false, ◌&&◌, List, []}
use Rattle.std.proofs.Common.{◌∷◌, Some, None, refl, ap, ◌∙◌, inl, inr, arith}
use Rattle.std.specs.Prelude.{slice_get}
use Rattle.std.proofs.lemmas.Bool.{cases_Bool, cases_eq, false≢true}
use Rattle.std.specs.List.{filter, find, range_with_len}
use Rattle.std.proofs.Common.{sym}

find_both : (t f : ℕ → Bool) (xs : List ℕ) → find t (filter f xs) ≡ find (λ x. f x && t x) xs
find_both t f [] = refl
find_both t f (x ∷ xs) =
    let tail = find_both t f xs in
    elim (cases_Bool (f x)) [
      | inl on ↦ rw on (elim (cases_Bool (t x)) [ inl here ↦ rw here refl | inr out ↦ rw out tail ])
      | inr off ↦ rw off tail
    ]

first_from : (t : ℕ → Bool) (v a n : ℕ)
    → a ≤ v
    → v < a + n
    → t v ≡ true
    → ((w : ℕ) → a ≤ w → w < v → t w ≡ false)
    → find t (range_with_len a n) ≡ Some v
first_from t v a zero low high on none = absurd (omega arith)
first_from t v a (suc n) low high on none = elim (cases_eq a v) [
  | inl e ↦ let here : t a ≡ true = ap t e ∙ on in rw here (ap Some e)
  | inr ne ↦ rw (none a (omega arith) (omega arith))
      (first_from t v (a + 1) n (omega arith) (omega arith) on
      (λ w above below. none w (omega arith) below))
]

none_from : (t : ℕ → Bool) (a n : ℕ)
    → ((w : ℕ) → a ≤ w → w < a + n → t w ≡ false)
    → find t (range_with_len a n) ≡ None
none_from t a zero none = refl
none_from t a (suc n) none = rw (none a (omega arith) (omega arith))
    (none_from t (a + 1) n (λ w above below. none w (omega arith) (omega arith)))

-- the first number below n that passes both tests
pub first_below : (t f : ℕ → Bool) (v n : ℕ)
    → v < n
    → (f v && t v) ≡ true
    → ((w : ℕ) → w < v → (f w && t w) ≡ false)
    → find t (filter f (range_with_len 0 n)) ≡ Some v
first_below t f v n high on none = find_both t f (range_with_len 0 n)
    ∙ first_from (λ w. f w && t w) v 0 n (omega arith) (omega arith) on
    (λ w above below. none w below)

pub none_below : (t f : ℕ → Bool) (n : ℕ)
    → ((w : ℕ) → w < n → (f w && t w) ≡ false)
    → find t (filter f (range_with_len 0 n)) ≡ None
none_below t f n none = find_both t f (range_with_len 0 n)
    ∙ none_from (λ w. f w && t w) 0 n (λ w above below. none w (omega arith))

-- the first member of all
pub first_of_all : (xs : List ℕ) → slice_get xs 0 ≡ find (λ _. true) xs
first_of_all [] = refl
first_of_all (x ∷ xs) = refl

-- ---- the nearest number that passes

pub least_from : (t : ℕ → Bool) (a d : ℕ)
    → t (a + d) ≡ true
    → (j : ℕ) × (a ≤ j) × (j ≤ a + d) × (t j ≡ true) × ((k : ℕ) → a ≤ k → k < j → t k ≡ false)
least_from t a zero on =
    let at : a + 0 ≡ a = omega arith in
    (a, omega arith, omega arith, ap t (sym at) ∙ on, λ k low high. absurd (omega arith))
least_from t a (suc d) on = elim (cases_Bool (t a)) [
  | inl here ↦ (a, omega arith, omega arith, here, λ k low high. absurd (omega arith))
  | inr out ↦
      let at : (a + 1) + d ≡ a + suc d = omega arith in
      let next = least_from t (a + 1) d (ap t at ∙ on) in
      let low : a + 1 ≤ next.0 = next.1 in
      let high : next.0 ≤ (a + 1) + d = next.2 in (
        next.0,
        omega arith,
        omega arith,
        next.3,
        λ k above below. elim (cases_eq a k) [
          | inl e ↦ ap t (sym e) ∙ out
          | inr ne ↦ next.4 k (omega arith) below
        ],
      )
]

pub greatest_below : (t : ℕ → Bool) (k : ℕ)
    → t 0 ≡ true
    → 0 < k
    → (j : ℕ) × (j < k) × (t j ≡ true) × ((m : ℕ) → j < m → m < k → t m ≡ false)
greatest_below t zero start some = absurd (omega arith)
greatest_below t (suc k) start some = elim (cases_Bool (t k)) [
  | inl here ↦ (k, omega arith, here, λ m above below. absurd (omega arith))
  | inr out ↦ elim (cases_eq k 0) [
    | inl none ↦ absurd (false≢true (sym out ∙ (ap t none ∙ start)))
    | inr more ↦
        let lower = greatest_below t k start (omega arith) in
        let under : lower.0 < k = lower.1 in (
          lower.0,
          omega arith,
          lower.2,
          λ m above below. elim (cases_eq m k) [
            | inl e ↦ ap t e ∙ out
            | inr ne ↦ lower.3 m above (omega arith)
          ],
        )
  ]
]
