-- What stands at the places of two lists that agree place by place, and of a list in order.
use Rattle.std.proofs.Common.{◌≡◌, ℕ, zero, suc, ◌<◌, List, [], ◌∷◌, Some, map, length, get_or}
use Rattle.std.proofs.Common.{refl, ap, subst, arith, slice_get}
use Rattle.pg_fold.proofs.Common.{All-nil, All-head, All-tail, All-cons, All-map, none-some}
use Rattle.pg_fold.proofs.Common.{slice_get_within, get_or_from_slice_get, All, AllPairs, AllZip}
use Rattle.pg_fold.proofs.Common.{same_some}
use Rattle.std.proofs.lemmas.List.Kept.{AllPairs-cons}

-- what is so of all members is so of one
pub all_at : {A : Type 0} (P : A → Type 0) (xs : List A) (k : ℕ) (x : A)
    → slice_get xs k ≡ Some x
    → All P xs
    → P x
all_at P [] k x at all = absurd (none-some x at)
all_at P (y ∷ ys) zero x at all = subst (λ z. P z) (same_some at) (All-head P y ys all)
all_at P (y ∷ ys) (suc k) x at all = all_at P ys k x at (All-tail P y ys all)

-- below the length something stands
pub within_at : {A : Type 0} (xs : List A) (k : ℕ)
    → k < length xs
    → (x : A) × (slice_get xs k ≡ Some x)
within_at [] k lt = absurd (omega (arith, lt))
within_at (y ∷ ys) zero lt = (y, refl)
within_at (y ∷ ys) (suc k) lt = within_at ys k (omega (arith, lt))

-- the earlier of two members comes first
pub pairs_at : {A : Type 0} (R : A → A → Type 0) (xs : List A) (i j : ℕ) (x y : A)
    → slice_get xs i ≡ Some x
    → slice_get xs j ≡ Some y
    → i < j
    → AllPairs R xs
    → R x y
pairs_at R xs i j x y here there lt pairs =
    let late = slice_get_within xs j y there in
    let early = slice_get_within xs i x here in
    let first : get_or xs i x ≡ x = get_or_from_slice_get xs i x x here in
    let second : get_or xs j x ≡ y = get_or_from_slice_get xs j y x there in
    subst (λ z. R x z) second (subst (λ z. R z (get_or xs j x)) first (pairs i j x lt late))

module _ {A B : Type 0} (R : A → B → Type 0) where
  -- opposite a member of the second list stands one of the first
  pub zip_left : (xs : List A) (ys : List B) (k : ℕ) (y : B)
      → slice_get ys k ≡ Some y
      → AllZip R xs ys
      → (x : A) × (slice_get xs k ≡ Some x) × R x y
  zip_left [] [] k y at both = absurd (none-some y at)
  zip_left [] (z ∷ ys) k y at both = absurd both
  zip_left (x ∷ xs) [] k y at both = absurd both
  zip_left (x ∷ xs) (z ∷ ys) zero y at both = (x, refl, subst (λ w. R x w) (same_some at) both.0)
  zip_left (x ∷ xs) (z ∷ ys) (suc k) y at both = zip_left xs ys k y at both.1

  -- and the other way round
  pub zip_right : (xs : List A) (ys : List B) (k : ℕ) (x : A)
      → slice_get xs k ≡ Some x
      → AllZip R xs ys
      → (y : B) × (slice_get ys k ≡ Some y) × R x y
  zip_right [] [] k x at both = absurd (none-some x at)
  zip_right [] (z ∷ ys) k x at both = absurd both
  zip_right (w ∷ xs) [] k x at both = absurd both
  zip_right (w ∷ xs) (z ∷ ys) zero x at both = (z, refl, subst (λ v. R v z) (same_some at) both.0)
  zip_right (w ∷ xs) (z ∷ ys) (suc k) x at both = zip_right xs ys k x at both.1

  pub zip_length : (xs : List A) (ys : List B) → AllZip R xs ys → length ys ≡ length xs
  zip_length [] [] both = refl
  zip_length [] (z ∷ ys) both = absurd both
  zip_length (w ∷ xs) [] both = absurd both
  zip_length (w ∷ xs) (z ∷ ys) both = ap suc (zip_length xs ys both.1)

  -- what is so of all of the first list makes something so of all of the second
  pub zip_all : (P : A → Type 0) (Q : B → Type 0)
      → ((x : A) (y : B) → R x y → P x → Q y)
      → (xs : List A) (ys : List B) → AllZip R xs ys
      → All P xs
      → All Q ys
  zip_all P Q each [] [] both all = All-nil Q
  zip_all P Q each [] (z ∷ ys) both all = absurd both
  zip_all P Q each (w ∷ xs) [] both all = absurd both
  zip_all P Q each (w ∷ xs) (z ∷ ys) both all = All-cons Q z ys
      (each w z both.0 (All-head P w xs all)) (zip_all P Q each xs ys both.1 (All-tail P w xs all))

  -- a value of the ones is one of the others
  pub zip_map : {C : Type 0} (f : A → C) (h : B → C)
      → ((x : A) (y : B) → R x y → h y ≡ f x)
      → (xs : List A) (ys : List B) → AllZip R xs ys
      → map h ys ≡ map f xs
  zip_map f h each [] [] both = refl
  zip_map f h each [] (z ∷ ys) both = absurd both
  zip_map f h each (w ∷ xs) [] both = absurd both
  zip_map f h each (w ∷ xs) (z ∷ ys) both =
      let first = each w z both.0 in
      let rest = zip_map f h each xs ys both.1 in
      λ i. first i ∷ rest i

-- an order of members is one of what they hold
pub pairs-map : {A B : Type 0} (f : A → B) (R : B → B → Type 0) (xs : List A)
    → AllPairs (λ x y. R (f x) (f y)) xs
    → AllPairs R (map f xs)
pairs-map f R [] pairs = λ i j d lt late. absurd (omega (arith, late))
pairs-map f R (x ∷ xs) pairs =
    AllPairs-cons R (f x) (map f xs)
    (All-map (R (f x)) f xs (λ k d within. pairs zero (suc k) d (omega arith) (omega arith)))
    (pairs-map f R xs (λ i j d lt within. pairs (suc i) (suc j) d (omega arith) (omega arith)))

pub map-map : {A B C : Type 0} (f : A → B) (h : B → C) (xs : List A)
    → map h (map f xs) ≡ map (λ x. h (f x)) xs
map-map f h [] = refl
map-map f h (x ∷ xs) = ap (λ ys. h (f x) ∷ ys) (map-map f h xs)
