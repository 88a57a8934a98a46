-- The first element, the lowest number and the lowest free point that pass a test.
use Rattle.std.proofs.Common.{◌≡◌, ℕ, zero, suc, ◌+◌, ◌<◌, ◌≤◌, Bool, true, false, ◌&&◌, ◌||◌, List}
use Rattle.std.proofs.Common.{[], ◌∷◌, Some, None, cond, refl, sym, ap, ◌∙◌, inl, inr, arith}
use Rattle.pg_game.proofs.Common.{cases_Bool, cases_eq, false≢true, filter, find, list_any}
use Rattle.pg_game.proofs.Common.{range_with_len, Contains}
use Rattle.pg_game.specs.declared.game.Game.{Game}
use Rattle.pg_game.specs.declared.position.Position.{Position}
use Rattle.pg_game.specs.Position.{is_free}
use Rattle.pg_game.specs.Game.{point_count, free_points}
use Rattle.pg_game.proofs.Members.{Contains-head, Contains-tail}

module _ {X : Type 0} where
  pub find_both : (t f : X → Bool) (xs : List X) → find t (filter f xs) ≡ find (λ x. f x && t x) xs
  find_both t f [] = refl
  find_both t f (x ∷ xs) =
      let tail = find_both t f xs in
      elim (cases_Bool (f x)) [
        | inl on ↦ rw on (elim (cases_Bool (t x)) [
          | inl here ↦ rw here refl
          | inr out ↦ rw out tail
        ])
        | inr off ↦ rw off tail
      ]

  pub find_all : (f : X → Bool) (xs : List X) → find (λ x. true) (filter f xs) ≡ find f xs
  find_all f [] = refl
  find_all f (x ∷ xs) = elim (cases_Bool (f x)) [
    | inl on ↦ rw on refl
    | inr off ↦ rw off (find_all f xs)
  ]

  pub any_both : (t f : X → Bool) (xs : List X)
      → list_any t (filter f xs) ≡ list_any (λ x. f x && t x) xs
  any_both t f [] = refl
  any_both t f (x ∷ xs) =
      let tail = any_both t f xs in
      elim (cases_Bool (f x)) [
        | inl on ↦ rw on (ap (λ b. t x || b) tail)
        | inr off ↦ rw off tail
      ]

  -- tests that agree at the members find the same
  pub find_same : (t u : X → Bool) (xs : List X)
      → ((x : X) → Contains xs x → t x ≡ u x)
      → find t xs ≡ find u xs
  find_same t u [] agree = refl
  find_same t u (x ∷ xs) agree =
      let here = agree x (Contains-head x xs) in
      let rest = find_same t u xs (λ y c. agree y (Contains-tail x y xs c)) in
      λ i. cond (here i) (Some x) (rest i)

-- the first that passes is a member that does
pub find-some : (t : ℕ → Bool) (xs : List ℕ) (v : ℕ)
    → Contains xs v
    → t v ≡ true
    → (w : ℕ) × (find t xs ≡ Some w) × Contains xs w × (t w ≡ true)
find-some t [] v c on = absurd (omega (arith, c.1))
find-some t (x ∷ xs) v c on = elim (cases_Bool (t x)) [
  | inl here ↦ rw here (x, refl, Contains-head x xs, here)
  | inr off ↦
      let rest = find-some t xs v (later x xs v c off on) on in
      rw off (rest.0, rest.1, Contains-tail x rest.0 xs rest.2, rest.3)
]
  where
    later : (x : ℕ) (xs : List ℕ) (v : ℕ)
        → Contains (x ∷ xs) v
        → t x ≡ false
        → t v ≡ true
        → Contains xs v
    later x xs v (zero, lt, is) off on = absurd (false≢true (sym off ∙ ap t is ∙ on))
    later x xs v (suc k, lt, is) off on = (k, omega arith, is)

-- the first number of a range that passes
pub first_from : (t : ℕ → Bool) (v a n : ℕ)
    → a ≤ v
    → v < a + n
    → t v ≡ true
    → ((w : ℕ) → a ≤ w → w < v → t w ≡ false)
    → find t (range_with_len a n) ≡ Some v
first_from t v a zero low high on none = absurd (omega arith)
first_from t v a (suc n) low high on none = elim (cases_eq a v) [
  | inl e ↦ let here : t a ≡ true = ap t e ∙ on in rw here (ap Some e)
  | inr ne ↦ rw (none a (omega arith) (omega arith))
      (first_from t v (a + 1) n (omega arith) (omega arith) on
      (λ w above below. none w (omega arith) below))
]

pub none_from : (t : ℕ → Bool) (a n : ℕ)
    → ((w : ℕ) → a ≤ w → w < a + n → t w ≡ false)
    → find t (range_with_len a n) ≡ None
none_from t a zero none = refl
none_from t a (suc n) none = rw (none a (omega arith) (omega arith))
    (none_from t (a + 1) n (λ w above below. none w (omega arith) (omega arith)))

-- the first number below n that passes both tests
pub first_below : (t f : ℕ → Bool) (v n : ℕ)
    → v < n
    → (f v && t v) ≡ true
    → ((w : ℕ) → w < v → (f w && t w) ≡ false)
    → find t (filter f (range_with_len 0 n)) ≡ Some v
first_below t f v n high on none = find_both t f (range_with_len 0 n)
    ∙ first_from (λ w. f w && t w) v 0 n (omega arith) (omega arith) on
    (λ w above below. none w below)

pub none_below : (t f : ℕ → Bool) (n : ℕ)
    → ((w : ℕ) → w < n → (f w && t w) ≡ false)
    → find t (filter f (range_with_len 0 n)) ≡ None
none_below t f n none = find_both t f (range_with_len 0 n)
    ∙ none_from (λ w. f w && t w) 0 n (λ w above below. none w (omega arith))

-- the first free point
pub lowest-free : (g : Game) (p : Position)
    → find (λ v. true) (free_points g p) ≡ find (is_free p) (range_with_len 0 (point_count g))
unfolding free_points
lowest-free g p = find_all (is_free p) (range_with_len 0 (point_count g))

-- the first free point that passes
pub lowest-found : (g : Game) (p : Position) (t : ℕ → Bool) (v : ℕ)
    → v < point_count g
    → (is_free p v && t v) ≡ true
    → ((w : ℕ) → w < v → (is_free p w && t w) ≡ false)
    → find t (free_points g p) ≡ Some v
unfolding free_points
lowest-found g p t v within on none = first_below t (is_free p) v (point_count g) within on none

pub lowest-none : (g : Game) (p : Position) (t : ℕ → Bool)
    → ((w : ℕ) → w < point_count g → (is_free p w && t w) ≡ false)
    → find t (free_points g p) ≡ None
unfolding free_points
lowest-none g p t none = none_below t (is_free p) (point_count g) none
