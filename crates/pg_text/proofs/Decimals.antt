-- Printed numbers are read again, and have no other signs than digits.
use Rattle.std.proofs.Common.{◌≡◌, ℕ, zero, suc, ◌^◌, ◌<◌, ◌≤◌, lit<, Bool, true, false, cond, ◌||◌}
use Rattle.std.proofs.Common.{◌⊎◌, inl, inr, List, [], ◌∷◌, ◌++◌, length, map, get_or, arith, refl}
use Rattle.std.proofs.Common.{ap, ◌∙◌}
use Rattle.std.specs.Prelude.{◌==◌, nat_lt, nat_le, Some, None}
use Rattle.pg_text.proofs.Common.{is_ascii_digit, decimal, list_all, AllByRecursion, digits_value}
use Rattle.pg_text.proofs.Common.{AllDigits, nat_tests, All-from_recursion, digit_from_value}
use Rattle.std.specs.Str.{bytes_eq}
use Rattle.std.proofs.lemmas.Fmt.{decimal_is_IsNumeral, length-decimal-le, first_decimal}
use Rattle.std.proofs.lemmas.Fmt.{decimal_digit}
use Rattle.pg_text.specs.Text.{Bytes, Lacks, two_parts, number}
use Rattle.pg_text.proofs.Cuts.{just_two}

-- a byte of a decimal number
abbrev pub IsDigit : ℕ → Type 0
IsDigit b = (48 ≤ b) × (b ≤ 57)

pub all_append : {A : Type 0} (P : A → Type 0) (front behind : List A)
    → AllByRecursion P front
    → AllByRecursion P behind
    → AllByRecursion P (front ++ behind)
all_append P [] behind h k = k
all_append P (x ∷ xs) behind h k = (h.0, all_append P xs behind h.1 k)

pub all_of : {A : Type 0} (P Q : A → Type 0)
    → ((x : A) → P x → Q x)
    → (xs : List A) → AllByRecursion P xs
    → AllByRecursion Q xs
all_of P Q f [] h = tt
all_of P Q f (x ∷ xs) h = (f x h.0, all_of P Q f xs h.1)

pub all_map : {A B : Type 0} (f : A → B) (P : A → Type 0) (Q : B → Type 0)
    → ((x : A) → P x → Q (f x))
    → (xs : List A) → AllByRecursion P xs
    → AllByRecursion Q (map f xs)
all_map f P Q h [] k = tt
all_map f P Q h (x ∷ xs) k = (h x k.0, all_map f P Q h xs k.1)

pub all_pass : {A : Type 0} (P : A → Type 0) (test : A → Bool)
    → ((x : A) → P x → test x ≡ true)
    → (xs : List A) → AllByRecursion P xs
    → list_all test xs ≡ true
all_pass P test h [] k = refl
all_pass P test h (x ∷ xs) k = let e = h x k.0 in rw e (all_pass P test h xs k.1)

digits_are : (w : Bytes) → AllDigits 10 w → AllByRecursion IsDigit w
digits_are [] h = tt
digits_are (c ∷ cs) h = (digit_from_value c h.0, digits_are cs h.1)

pub decimal_digits : (n : ℕ) → n < 2 ^ 64 → AllByRecursion IsDigit (decimal n)
decimal_digits n wide = digits_are (decimal n) (decimal_is_IsNumeral n wide).0.1

no_digit : (c b : ℕ) → IsDigit b → (c < 48) ⊎ (57 < c) → (b == c) ≡ false
no_digit c b h (inl low) = grind (arith, nat_tests, h.0)
no_digit c b h (inr high) = grind (arith, nat_tests, h.1)

pub decimal_lacks : (c n : ℕ) → n < 2 ^ 64 → (c < 48) ⊎ (57 < c) → Lacks c (decimal n)
decimal_lacks c n wide out = All-from_recursion (λ b. (b == c) ≡ false) (decimal n)
    (all_of IsDigit (λ b. (b == c) ≡ false) (λ b h. no_digit c b h out) (decimal n)
    (decimal_digits n wide))

not_that : (c : ℕ) (w : Bytes)
    → AllByRecursion (λ b. (b == c) ≡ false) w
    → bytes_eq w (c ∷ []) ≡ false
not_that c [] h = refl
not_that c (b ∷ bs) h = rw h.0 refl

-- a number isn't a word of one sign
pub decimal_not : (c n : ℕ)
    → n < 2 ^ 64
    → (c < 48) ⊎ (57 < c)
    → bytes_eq (decimal n) (c ∷ []) ≡ false
decimal_not c n wide out = not_that c (decimal n)
    (all_of IsDigit (λ b. (b == c) ≡ false) (λ b h. no_digit c b h out) (decimal n)
    (decimal_digits n wide))

-- ---- read again

zero_is : number (decimal 0) ≡ Some 0
unfolding number
zero_is = let e : number (48 ∷ []) ≡ Some 0 = refl in ap number (decimal_digit 0 (lit< tt)) ∙ e

or_true : (b : Bool) {n : ℕ} → cond (b || true) (Some n) None ≡ Some n
or_true true = refl
or_true false = refl

ascii_digit : (c : ℕ) → 48 ≤ c → c ≤ 57 → is_ascii_digit c ≡ true
ascii_digit c low high = grind (arith, nat_tests)

all_digits : (w : Bytes) → AllByRecursion IsDigit w → list_all is_ascii_digit w ≡ true
all_digits w h = all_pass IsDigit is_ascii_digit (λ c k. ascii_digit c k.0 k.1) w h

numeral_is : (w : Bytes)
    → 0 < length w
    → length w < 10
    → list_all is_ascii_digit w ≡ true
    → 48 < get_or w 0 0
    → number w ≡ Some (digits_value 10 w)
unfolding number
numeral_is w some few digits first =
    let a : nat_lt 0 (length w) ≡ true = grind (arith, nat_tests) in
    let b : nat_le (length w) 9 ≡ true = grind (arith, nat_tests) in
    let c : (get_or w 0 0 == 48) ≡ false = grind (arith, nat_tests) in
    rw (a, b, digits, c) (or_true (length w == 1))

pub number_decimal : (n : ℕ) → n < 10 ^ 9 → number (decimal n) ≡ Some n
number_decimal zero small = zero_is
number_decimal (suc n) small =
    let wide : suc n < 2 ^ 64 = omega arith in
    let numeral = decimal_is_IsNumeral (suc n) wide in
    numeral_is (decimal (suc n)) numeral.0.0 (omega (
      arith,
      length-decimal-le 9 (suc n) (lit< tt) small wide,
    )) (all_digits (decimal (suc n)) (decimal_digits (suc n) wide))
    (first_decimal (suc n) (omega arith) wide)
    ∙ ap Some numeral.1

pub two_decimals : (c a b : ℕ)
    → a < 2 ^ 64
    → b < 2 ^ 64
    → (c < 48) ⊎ (57 < c)
    → two_parts c (decimal a ++ c ∷ decimal b) ≡ Some (decimal a, decimal b)
two_decimals c a b wide wider out = just_two c (decimal a ++ c ∷ decimal b) (decimal a)
    (decimal b) refl (decimal_lacks c a wide out) (decimal_lacks c b wider out)
