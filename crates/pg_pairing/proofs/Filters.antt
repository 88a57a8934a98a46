-- Lists without the elements that fail a test, and counts of numbers.
use Rattle.std.proofs.Common.{◌≡◌, ℕ, zero, suc, ◌+◌, ◌<◌, ◌≤◌, Bool, true, false, not, ◌&&◌}
use Rattle.std.proofs.Common.{List, [], ◌∷◌, length, Some, None, eqb, refl, sym, ap, ◌∙◌, subst}
use Rattle.std.proofs.Common.{inl, inr, arith, eq-eqb, ne_eqb}
use Rattle.pg_pairing.proofs.Common.{cases_Bool, cases_eq, false≢true, All-head, All-tail}
use Rattle.pg_pairing.proofs.Common.{All-contains, All-filter, All-contains_itself, filter_passes}
use Rattle.pg_pairing.proofs.Common.{same_Some, none-some, filter, find, range_with_len, Contains}
use Rattle.pg_pairing.proofs.Common.{All, list_any, Contains-head, Contains-tail, find_same}
use Rattle.std.proofs.lemmas.List.FromFn.{length-range_with_len, get_or-range_with_len}

module _ {X : Type 0} where
  -- a list of which all pass stays whole
  pub filter_all : (t : X → Bool) (xs : List X) → All (λ x. t x ≡ true) xs → filter t xs ≡ xs
  filter_all t [] all = refl
  filter_all t (x ∷ xs) all =
      let here : t x ≡ true = All-head (λ x. t x ≡ true) x xs all in
      rw here (ap (λ ys. x ∷ ys) (filter_all t xs (All-tail (λ x. t x ≡ true) x xs all)))

  -- a test that passes only where another does needs no filter by that other one
  pub filter_narrower : (f h : X → Bool)
      → ((x : X) → f x ≡ true → h x ≡ true)
      → (xs : List X) → filter f (filter h xs) ≡ filter f xs
  filter_narrower f h only [] = refl
  filter_narrower f h only (x ∷ xs) =
      let tail = filter_narrower f h only xs in
      elim (cases_Bool (h x)) [
        | inl on ↦ rw on (elim (cases_Bool (f x)) [
          | inl here ↦ rw here (ap (λ ys. x ∷ ys) tail)
          | inr out ↦ rw out tail
        ])
        | inr off ↦
            let out : f x ≡ false = elim (cases_Bool (f x)) [
              | inl here ↦ absurd (false≢true (sym off ∙ only x here))
              | inr out ↦ out
            ] in
            rw off (rw out tail)
      ]

  -- what is kept is a member that passes
  pub filter_member : (t : X → Bool) (xs : List X) (x : X)
      → Contains (filter t xs) x
      → Contains xs x × (t x ≡ true)
  filter_member t xs x c = (
    All-contains (Contains xs) (filter t xs) x
        (All-filter t (Contains xs) xs (All-contains_itself xs)) c,
    All-contains (λ y. t y ≡ true) (filter t xs) x (filter_passes t xs) c,
  )

  -- the first that passes is a member that passes
  pub find_member : (t : X → Bool) (xs : List X) (x : X)
      → find t xs ≡ Some x
      → Contains xs x × (t x ≡ true)
  find_member t [] x e = absurd (none-some x e)
  find_member t (y ∷ ys) x e = elim (cases_Bool (t y)) [
    | inl on ↦
        let same : y ≡ x = same_Some y x (rw on at e) in
        (subst (Contains (y ∷ ys)) same (Contains-head y ys), ap t (sym same) ∙ on)
    | inr off ↦
        let found = find_member t ys x (rw off at e) in
        (Contains-tail y x ys found.0, found.1)
  ]

  -- where none is found, none passes
  pub find_none : (t : X → Bool) (xs : List X) → find t xs ≡ None → list_any t xs ≡ false
  find_none t [] e = refl
  find_none t (y ∷ ys) e = elim (cases_Bool (t y)) [
    | inl on ↦ absurd (none-some y (sym (rw on at e)))
    | inr off ↦ rw off (find_none t ys (rw off at e))
  ]

  -- a list with a member isn't empty
  pub some_length : (xs : List X) (x : X) → Contains xs x → 1 ≤ length xs
  some_length xs x c = omega (arith, c.1)

-- ---- numbers from a on

pub below_range : (n v : ℕ) → Contains (range_with_len 0 n) v → v < n
below_range n v c =
    let len = length-range_with_len 0 n in
    let at = get_or-range_with_len 0 n c.0 v (omega (arith, c.1)) in
    omega (arith, c.1, c.2)

pub in_range : (n v : ℕ) → v < n → Contains (range_with_len 0 n) v
in_range n v h =
    (v, omega (arith, length-range_with_len 0 n), omega (arith, get_or-range_with_len 0 n v v h))

-- two tests that agree at these numbers keep the same
pub filter_agree-range : (t u : ℕ → Bool) (a n : ℕ)
    → ((v : ℕ) → a ≤ v → v < a + n → t v ≡ u v)
    → filter t (range_with_len a n) ≡ filter u (range_with_len a n)
filter_agree-range t u a zero agree = refl
filter_agree-range t u a (suc n) agree =
    let tail =
    filter_agree-range t u (a + 1) n (λ v low high. agree v (omega arith) (omega arith)) in
    let here : t a ≡ u a = agree a (omega arith) (omega arith) in
    elim (cases_Bool (u a)) [
      | inl on ↦ let also : t a ≡ true = here ∙ on in rw on (rw also (ap (λ ys. a ∷ ys) tail))
      | inr off ↦ let also : t a ≡ false = here ∙ off in rw off (rw also tail)
    ]

none_equal : (b a n : ℕ) → b < a → length (filter (λ q. eqb q b) (range_with_len a n)) ≡ 0
none_equal b a zero h = refl
none_equal b a (suc n) h = rw (ne_eqb a b (λ e. omega arith)) (none_equal b (a + 1) n (omega arith))

-- one number is b
pub one_equal : (b a n : ℕ)
    → a ≤ b
    → b < a + n
    → length (filter (λ q. eqb q b) (range_with_len a n)) ≡ 1
one_equal b a zero low high = absurd (omega arith)
one_equal b a (suc n) low high = elim (cases_eq a b) [
  | inl e ↦
      let none = none_equal b (a + 1) n (omega arith) in
      rw (eq-eqb a b e) (omega (arith, none))
  | inr ne ↦ rw (ne_eqb a b ne) (one_equal b (a + 1) n (omega arith) (omega arith))
]

same_without : (t : ℕ → Bool) (b a n : ℕ)
    → b < a
    → length (filter (λ q. not (eqb q b) && t q) (range_with_len a n))
    ≡ length (filter t (range_with_len a n))
same_without t b a zero h = refl
same_without t b a (suc n) h =
    let tail = same_without t b (a + 1) n (omega arith) in
    rw (ne_eqb a b (λ e. omega arith)) (elim (cases_Bool (t a)) [
      | inl on ↦ rw on (ap suc tail)
      | inr off ↦ rw off tail
    ])

-- without one that passes there is one fewer
pub one_without : (t : ℕ → Bool) (b a n : ℕ)
    → t b ≡ true
    → a ≤ b
    → b < a + n
    → length (filter (λ q. not (eqb q b) && t q) (range_with_len a n)) + 1
    ≡ length (filter t (range_with_len a n))
one_without t b a zero on low high = absurd (omega arith)
one_without t b a (suc n) on low high = elim (cases_eq a b) [
  | inl e ↦
      let here : t a ≡ true = ap t e ∙ on in
      let tail = same_without t b (a + 1) n (omega arith) in
      rw (eq-eqb a b e) (rw here (omega (arith, tail)))
  | inr ne ↦
      let tail = one_without t b (a + 1) n on (omega arith) (omega arith) in
      rw (ne_eqb a b ne) (elim (cases_Bool (t a)) [
        | inl here ↦ rw here (omega (arith, tail))
        | inr off ↦ rw off tail
      ])
]

-- ---- the first that passes

pub find_agree : {X : Type 0} (t u : X → Bool)
    → ((x : X) → t x ≡ u x)
    → (xs : List X) → find t xs ≡ find u xs
find_agree t u agree xs = find_same t u xs (λ x c. agree x)
