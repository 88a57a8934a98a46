-- How many members of a list pass a test before a place and after it.
use Rattle.std.proofs.Common.{◌≡◌, ◌∙◌, ℕ, zero, suc, ◌+◌, Bool, true, false, cond, List, []}
use Rattle.std.proofs.Common.{◌∷◌, Some, ap, arith, drop, filter, length, take}
use Rattle.std.specs.Prelude.{slice_get}
use Rattle.std.proofs.lemmas.Option.{none-some, same_Some}

module _ {X : Type 0} where
  pub length-cond : (b : Bool) (x : X) (us : List X)
      → length (cond b (x ∷ us) us) ≡ cond b 1 0 + length us
  length-cond true x us = omega arith
  length-cond false x us = omega arith

module _ {X : Type 0} (p : X → Bool) where
  -- those before the place, the member there, and those after it
  pub count-parts : (xs : List X) (k : ℕ) (x : X)
      → slice_get xs k ≡ Some x
      → length (filter p xs)
      ≡ length (filter p (take k xs)) + (cond (p x) 1 0 + length (filter p (drop (suc k) xs)))
  count-parts [] k x at = absurd (none-some x at)
  count-parts (y ∷ ys) zero x at =
      let one = length-cond (p y) y (filter p ys) in
      let same : ◌≡◌ {A = ℕ} (cond (p y) 1 0) (cond (p x) 1 0) =
      ap (λ z. cond (p z) 1 0) (same_Some y x at) in
      omega (arith, one, same)
  count-parts (y ∷ ys) (suc k) x at =
      let one = length-cond (p y) y (filter p ys) in
      let before = length-cond (p y) y (filter p (take k ys)) in
      omega (arith, one, before, count-parts ys k x at)

  cons-at : (b : Bool) (y : X) (us vs : List X) (x : X)
      → slice_get us (length vs) ≡ Some x
      → slice_get (cond b (y ∷ us) us) (length (cond b (y ∷ vs) vs)) ≡ Some x
  cons-at true y us vs x at = at
  cons-at false y us vs x at = at

  -- a member that passes is found among those that pass, after as many as pass before it
  pub at-filter : (xs : List X) (k : ℕ) (x : X)
      → slice_get xs k ≡ Some x
      → p x ≡ true
      → slice_get (filter p xs) (length (filter p (take k xs))) ≡ Some x
  at-filter [] k x at is = absurd (none-some x at)
  at-filter (y ∷ ys) zero x at is =
      ap (λ b. slice_get (cond b (y ∷ filter p ys) (filter p ys)) 0)
      (ap p (same_Some y x at) ∙ is)
      ∙ at
  at-filter (y ∷ ys) (suc k) x at is =
      cons-at (p y) y (filter p ys) (filter p (take k ys)) x (at-filter ys k x at is)
