-- What stands at the places of a list, after a push, after a write and in its first part.
use Rattle.std.proofs.Common.{◌≡◌, ◌≢◌, ℕ, zero, suc, ◌<◌, Bool, Option, Some, None, List, [], ◌∷◌}
use Rattle.std.proofs.Common.{◌++◌, map, length, take, get_or, refl, sym, ap, ◌∙◌, subst, inl, inr}
use Rattle.std.proofs.Common.{◌⊎◌, arith, slice_get, slice_set}
use Rattle.pg_base.proofs.Common.{cases_eq, length-set, list_any, list_all, Contains}
use Rattle.std.proofs.lemmas.List.Elements.{Contains-append_left, Contains-push_cases}
use Rattle.std.proofs.lemmas.List.Folds.{list_all-map as all_of-map}
use Rattle.std.proofs.lemmas.Option.{slice_get_within, get_or_from_slice_get, slice_get-get_or}
use Rattle.std.proofs.lemmas.Option.{same_Some, none-some}

pub some≢none : {X : Type 0} {x : X} → ◌≡◌ {A = Option X} (Some x) None → ⊥
some≢none {x = x} e = none-some x (sym e)

pub same_some : {X : Type 0} {x y : X} → Some x ≡ Some y → x ≡ y
same_some {x = x} {y = y} e = same_Some x y e

module _ {X : Type 0} where
  pub at_old : (xs : List X) (x y : X) (k : ℕ)
      → slice_get xs k ≡ Some y
      → slice_get (xs ++ x ∷ []) k ≡ Some y
  at_old [] x y k h = absurd (none-some y h)
  at_old (z ∷ zs) x y zero h = h
  at_old (z ∷ zs) x y (suc k) h = at_old zs x y k h

  pub at_new : (xs : List X) (x : X) → slice_get (xs ++ x ∷ []) (length xs) ≡ Some x
  at_new [] x = refl
  at_new (z ∷ zs) x = at_new zs x

  -- what stands there after a push stood there before, or is the new last one
  pub at_push : (xs : List X) (x y : X) (k : ℕ)
      → slice_get (xs ++ x ∷ []) k ≡ Some y
      → (slice_get xs k ≡ Some y) ⊎ ((k ≡ length xs) × (x ≡ y))
  at_push [] x y zero h = inr (refl, same_Some x y h)
  at_push [] x y (suc k) h = inl h
  at_push (z ∷ zs) x y zero h = inl h
  at_push (z ∷ zs) x y (suc k) h = elim (at_push zs x y k h) [
    | inl old ↦ inl old
    | inr new ↦ inr (ap suc new.0, new.1)
  ]

  pub one_at : (xs : List X) (k : ℕ) (x y : X)
      → slice_get xs k ≡ Some x
      → slice_get xs k ≡ Some y
      → x ≡ y
  one_at xs k x y hx hy = same_Some x y (sym hx ∙ hy)

  pub at_contains : (xs : List X) (k : ℕ) (x : X) → slice_get xs k ≡ Some x → Contains xs x
  at_contains xs k x h = (k, slice_get_within xs k x h, get_or_from_slice_get xs k x x h)

  pub contains_at : (xs : List X) (x : X) → Contains xs x → (k : ℕ) × (slice_get xs k ≡ Some x)
  contains_at xs x c = (c.0, slice_get-get_or xs c.0 x c.1 ∙ ap Some c.2)

  pub contains_push : (xs : List X) (x y : X) → Contains (xs ++ x ∷ []) y → Contains xs y ⊎ (x ≡ y)
  contains_push xs x y c = Contains-push_cases xs x y c

  pub contains_old : (xs : List X) (x y : X) → Contains xs y → Contains (xs ++ x ∷ []) y
  contains_old xs x y c = Contains-append_left xs (x ∷ []) y c

  -- what stands there after a write
  pub at_set_other : (xs : List X) (i k : ℕ) (x : X)
      → k ≢ i
      → slice_get (slice_set xs i x) k ≡ slice_get xs k
  at_set_other [] i k x ne = refl
  at_set_other (z ∷ zs) zero zero x ne = absurd (ne refl)
  at_set_other (z ∷ zs) zero (suc k) x ne = refl
  at_set_other (z ∷ zs) (suc i) zero x ne = refl
  at_set_other (z ∷ zs) (suc i) (suc k) x ne = at_set_other zs i k x (λ e. ne (ap suc e))

  pub at_set_same : (xs : List X) (i : ℕ) (x : X)
      → i < length xs
      → slice_get (slice_set xs i x) i ≡ Some x
  at_set_same [] i x h = absurd (omega arith)
  at_set_same (z ∷ zs) zero x h = refl
  at_set_same (z ∷ zs) (suc i) x h = at_set_same zs i x (omega arith)

  -- what stands there after a write is the new one, or stood there before
  pub at_set : (xs : List X) (i k : ℕ) (x y : X)
      → slice_get (slice_set xs i x) k ≡ Some y
      → ((k ≡ i) × (x ≡ y)) ⊎ ((k ≢ i) × (slice_get xs k ≡ Some y))
  at_set xs i k x y h = elim (cases_eq k i) [
    | inl e ↦
        let within : k < length (slice_set xs i x) = slice_get_within (slice_set xs i x) k y h in
        let inside : i < length xs = omega (arith, within, e, length-set xs i x) in
        inr_or (subst (λ (j : ℕ). slice_get (slice_set xs i x) j ≡ Some y) e h) e inside
    | inr ne ↦ inr (ne, sym (at_set_other xs i k x ne) ∙ h)
  ]
    where
      inr_or : slice_get (slice_set xs i x) i ≡ Some y
          → k ≡ i
          → i < length xs
          → ((k ≡ i) × (x ≡ y)) ⊎ ((k ≢ i) × (slice_get xs k ≡ Some y))
      inr_or there e inside =
          inl (e, one_at (slice_set xs i x) i x y (at_set_same xs i x inside) there)

  -- what was read stands there
  pub read_at : (xs : List X) (i : ℕ) (x y : X)
      → i < length xs
      → x ≡ get_or xs i x
      → x ≡ y
      → slice_get xs i ≡ Some y
  read_at xs i x y within read e = slice_get-get_or xs i x within ∙ ap Some (sym read ∙ e)

  -- what stands in the first part
  pub taken-at : (xs : List X) (n k : ℕ) → k < n → slice_get (take n xs) k ≡ slice_get xs k
  taken-at [] zero k lt = refl
  taken-at [] (suc n) k lt = refl
  taken-at (y ∷ ys) zero k lt = absurd (omega (arith, lt))
  taken-at (y ∷ ys) (suc n) zero lt = refl
  taken-at (y ∷ ys) (suc n) (suc k) lt = taken-at ys n k (omega (arith, lt))

  pub in_take : (xs : List X) (n k : ℕ) (x : X)
      → k < n
      → slice_get xs k ≡ Some x
      → slice_get (take n xs) k ≡ Some x
  in_take xs n k x lt at = taken-at xs n k lt ∙ at

  pub from_take : (xs : List X) (n k : ℕ) (x : X)
      → slice_get (take n xs) k ≡ Some x
      → (slice_get xs k ≡ Some x) × (k < n)
  from_take xs zero k x at = absurd (none-some x at)
  from_take [] (suc n) k x at = absurd (none-some x at)
  from_take (y ∷ ys) (suc n) zero x at = (at, omega arith)
  from_take (y ∷ ys) (suc n) (suc k) x at =
      let r = from_take ys n k x at in
      (r.0, omega (arith, r.1))

module _ {X Y : Type 0} (f : X → Y) (t : Y → Bool) where
  pub list_any-map : (xs : List X) → list_any t (map f xs) ≡ list_any (λ x. t (f x)) xs
  list_any-map [] = refl
  list_any-map (x ∷ xs) = rw (list_any-map xs) refl

  pub list_all-map : (xs : List X) → list_all t (map f xs) ≡ list_all (λ x. t (f x)) xs
  list_all-map xs = all_of-map t f xs

-- lists of one length with the same numbers at each place are the same
module _ {A B : Type 0} (f : A → ℕ) (h : B → ℕ) where
  pub map-same_at : (xs : List A) (ys : List B)
      → length xs ≡ length ys
      → ((n : ℕ) (x : A) (y : B) → slice_get xs n ≡ Some x → slice_get ys n ≡ Some y → f x ≡ h y)
      → map f xs ≡ map h ys
  map-same_at [] [] len each = refl
  map-same_at [] (y ∷ ys) len each = absurd (omega (arith, len))
  map-same_at (x ∷ xs) [] len each = absurd (omega (arith, len))
  map-same_at (x ∷ xs) (y ∷ ys) len each =
      let first = each 0 x y refl refl in
      let rest = map-same_at xs ys (omega (arith, len)) (λ n a b. each (suc n) a b) in
      λ i. first i ∷ rest i
