-- The first members of a list that pass a test.
use Rattle.std.proofs.Common.{◌≡◌, ◌∙◌, ℕ, suc, ◌+◌, ◌<◌, Bool, true, List, [], ◌∷◌}
use Rattle.std.proofs.Common.{◌++◌, length, take, drop, get_or, refl, sym, ap, arith, filter}
use Rattle.std.proofs.Common.{append_assoc, drop-cons, if◌then◌else◌, length-append, nat_lt, subst}
use Rattle.std.specs.List.{flat_map}
use Rattle.std.proofs.lemmas.Bool.Decides.{nat_tests}
use Rattle.std.proofs.Math.Seq.{take-append_seam}
use Rattle.std.proofs.lemmas.List.{take-append-drop}
use Rattle.std.proofs.lemmas.List.Elements.{filter-append}

module _ {X : Type 0} (p : X → Bool) where
  -- a list that begins with a member that passes
  begins : (x : X) (xs : List X) → p x ≡ true → filter p (x ∷ xs) ≡ x ∷ filter p xs
  begins x xs passes = rw passes refl

  -- those that pass, cut before a member that does
  cut : (xs : List X) (i : ℕ) (d : X)
      → i < length xs
      → p (get_or xs i d) ≡ true
      → filter p xs ≡ filter p (take i xs) ++ get_or xs i d ∷ filter p (drop (suc i) xs)
  cut xs i d inside passes = ap (filter p) (sym (take-append-drop i xs))
      ∙ filter-append p (take i xs) (drop i xs)
      ∙ ap (λ (ys : List X). filter p (take i xs) ++ ys)
      (ap (filter p) (drop-cons xs i d inside) ∙ begins (get_or xs i d) (drop (suc i) xs) passes)

  -- so many were met, and then one more
  pub first_met : (xs : List X) (i : ℕ) (d : X)
      → i < length xs
      → p (get_or xs i d) ≡ true
      → take (length (filter p (take i xs))) (filter p xs) ≡ filter p (take i xs)
  first_met xs i d inside passes =
      ap (take (length (filter p (take i xs)))) (cut xs i d inside passes)
      ∙ take-append_seam (filter p (take i xs)) (get_or xs i d ∷ filter p (drop (suc i) xs))

  pub more_met : (xs : List X) (i : ℕ) (d : X)
      → i < length xs
      → p (get_or xs i d) ≡ true
      → length (filter p (take i xs)) < length (filter p xs)
  more_met xs i d inside passes =
      let whole : length (filter p xs)
      ≡ length (filter p (take i xs)) + suc (length (filter p (drop (suc i) xs))) =
      ap length (cut xs i d inside passes)
      ∙ length-append (filter p (take i xs)) (get_or xs i d ∷ filter p (drop (suc i) xs)) in
      omega (arith, whole)

-- the text of those that were met, and then that there are more
pub cut_text : {X : Type 0} (p : X → Bool) (text : X → List ℕ) (xs : List X) (i m : ℕ) (d : X)
    (front made before dots : List ℕ)
    → i < length xs
    → p (get_or xs i d) ≡ true
    → length (filter p (take i xs)) ≡ m
    → before ≡ front ++ flat_map text (filter p (take i xs))
    → made ≡ before ++ dots
    → made ≡ front ++ (flat_map text (take m (filter p xs))
    ++ (if nat_lt m (length (filter p xs)) then dots else []))
cut_text p text xs i m d front made before dots inside passes count was step =
    let met : take m (filter p xs) ≡ filter p (take i xs) =
    subst (λ (k : ℕ). take k (filter p xs) ≡ filter p (take i xs)) count
    (first_met p xs i d inside passes) in
    let more = more_met p xs i d inside passes in
    let test : nat_lt m (length (filter p xs)) ≡ true = grind (arith, nat_tests, more, count) in
    rw (met, test)
    (step ∙ ap (λ (ys : List ℕ). ys ++ dots) was
    ∙ append_assoc front (flat_map text (filter p (take i xs))) dots)
