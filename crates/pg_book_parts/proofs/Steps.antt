-- Lists to which members are added step by step.
use Rattle.std.proofs.Common.{◌≡◌, ◌∙◌, List, [], ◌∷◌, ◌++◌, ap, append_assoc}

module _ {A : Type 0} where
  -- two lists are added
  pub then_two : (old p q a b : List A) → p ≡ old ++ a → q ≡ p ++ b → q ≡ old ++ (a ++ b)
  then_two old p q a b one two = two ∙ ap (λ xs. xs ++ b) one ∙ append_assoc old a b

  -- three lists are added
  pub then_three : (old p q r a b c : List A)
      → p ≡ old ++ a
      → q ≡ p ++ b
      → r ≡ q ++ c
      → r ≡ old ++ (a ++ (b ++ c))
  then_three old p q r a b c one two three =
      then_two old p r a (b ++ c) one (then_two p q r b c two three)

  -- what is inside is added between what opens and what closes
  pub filled : (old p q r inside : List A) (begun ended : A)
      → p ≡ old ++ begun ∷ []
      → q ≡ p ++ inside
      → r ≡ q ++ ended ∷ []
      → r ≡ old ++ (begun ∷ (inside ++ ended ∷ []))
  filled old p q r inside begun ended one two three =
      then_three old p q r (begun ∷ []) inside (ended ∷ []) one two three

  -- and so if it is added in two steps
  pub filled_two : (old p q r s a b : List A) (begun ended : A)
      → p ≡ old ++ begun ∷ []
      → q ≡ p ++ a
      → r ≡ q ++ b
      → s ≡ r ++ ended ∷ []
      → s ≡ old ++ (begun ∷ ((a ++ b) ++ ended ∷ []))
  filled_two old p q r s a b begun ended one two three four =
      filled old p r s (a ++ b) begun ended one (then_two p q r a b two three) four

  -- in three steps
  pub filled_three : (old p q r s t a b c : List A) (begun ended : A)
      → p ≡ old ++ begun ∷ []
      → q ≡ p ++ a
      → r ≡ q ++ b
      → s ≡ r ++ c
      → t ≡ s ++ ended ∷ []
      → t ≡ old ++ (begun ∷ ((a ++ (b ++ c)) ++ ended ∷ []))
  filled_three old p q r s t a b c begun ended one two three four five =
      filled old p s t (a ++ (b ++ c)) begun ended one (then_three p q r s a b c two three four)
      five
