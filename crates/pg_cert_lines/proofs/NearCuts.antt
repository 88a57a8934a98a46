-- A text that is cut at a sign, which may be its second byte.
use Rattle.std.proofs.Common.{◌≡◌, ℕ, ◌-◌, ◌<◌, false, [], ◌∷◌, ◌++◌, length, take, drop}
use Rattle.std.proofs.Common.{get_or}
use Rattle.std.proofs.Common.{Some, None, arith}
use Rattle.std.specs.Prelude.{◌==◌, ◌≢◌}
use Rattle.pg_cert_lines.proofs.Common.{All-from_recursion, Bytes, Lacks, four_none, four_three}
use Rattle.pg_cert_lines.proofs.Common.{four_parts, just_two, nat_tests, two_parts}
use Rattle.pg_text.proofs.Cuts.{four_one, four_two, no_parts, too_many}
use Rattle.pg_cert_lines.proofs.DigitRuns.{split}

near_lacks : (sign : ℕ) (text : Bytes)
    → 1 < length text
    → get_or text 0 0 ≢ sign
    → Lacks sign (take 1 text)
near_lacks sign [] more first = absurd (omega (arith, more))
near_lacks sign (a ∷ bs) more first =
    let off : (a == sign) ≡ false = grind (arith, nat_tests) in
    All-from_recursion (λ b. (b == sign) ≡ false) (a ∷ []) (off, tt)

pub near_found : (sign : ℕ) (text : Bytes)
    → 1 < length text
    → get_or text 0 0 ≢ sign
    → get_or text 1 0 ≡ sign
    → (text ≡ take 1 text ++ sign ∷ take (length text - 2) (drop 2 text))
    × Lacks sign (take 1 text)
near_found sign text more first at = (split text 1 sign more at, near_lacks sign text more first)

-- two parts
pub two_none : (sign : ℕ) (word : Bytes) → Lacks sign word → two_parts sign word ≡ None
two_none sign word lacks = no_parts sign word lacks

pub two_just : (sign : ℕ) (word a b : Bytes)
    → word ≡ a ++ sign ∷ b
    → Lacks sign a
    → Lacks sign b
    → two_parts sign word ≡ Some (a, b)
two_just sign word a b e lacks lacking = just_two sign word a b e lacks lacking

pub two_many : (sign : ℕ) (word a b c d : Bytes)
    → word ≡ a ++ sign ∷ b
    → Lacks sign a
    → b ≡ c ++ sign ∷ d
    → Lacks sign c
    → two_parts sign word ≡ None
two_many sign word a b c d e lacks f lacking = too_many sign word a b c d e lacks f lacking

-- four parts
pub four_of_none : (sign : ℕ) (text : Bytes) → Lacks sign text → four_parts sign text ≡ None
four_of_none sign text lacks = four_none sign text lacks

pub four_of_one : (sign : ℕ) (text a b : Bytes)
    → text ≡ a ++ sign ∷ b
    → Lacks sign a
    → Lacks sign b
    → four_parts sign text ≡ None
four_of_one sign text a b e lacks lacking = four_one sign text a b e lacks lacking

pub four_of_two : (sign : ℕ) (text a b c d : Bytes)
    → text ≡ a ++ sign ∷ b
    → Lacks sign a
    → b ≡ c ++ sign ∷ d
    → Lacks sign c
    → two_parts sign d ≡ None
    → four_parts sign text ≡ None
four_of_two sign text a b c d e lacks f lacking none =
    four_two sign text a b c d e lacks f lacking none

pub four_of_three : (sign : ℕ) (text a b c d p q : Bytes)
    → text ≡ a ++ sign ∷ b
    → Lacks sign a
    → b ≡ c ++ sign ∷ d
    → Lacks sign c
    → two_parts sign d ≡ Some (p, q)
    → four_parts sign text ≡ Some (record { first = a; second = c; third = p; fourth = q })
four_of_three sign text a b c d p q e lacks f lacking some =
    four_three sign text a b c d p q e lacks f lacking some
