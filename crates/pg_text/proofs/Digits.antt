-- The number that digits write.
use Rattle.std.proofs.Common.{◌≡◌, ℕ, ◌+◌, ◌-◌, ◌*◌, ◌^◌, ◌<◌, ◌≤◌, lit≤, true, List, [], ◌∷◌}
use Rattle.std.proofs.Common.{length, take, get_or, arith, ap, ◌∙◌}
use Rattle.pg_text.proofs.Common.{is_ascii_digit, digit_value, list_all, digits_value, AllDigits}
use Rattle.pg_text.proofs.Common.{and_parts, nat_tests, digits_value-take-le, digit_at}
use Rattle.std.proofs.lemmas.Int.Digits.{digits_value_more, digits_value-lt}
use Rattle.std.proofs.Math.Nat.{pow-le-pow_right}
use Rattle.pg_text.specs.declared.numbers.TheConstants.{MAX_DIGITS}

pub digit : (c : ℕ) → is_ascii_digit c ≡ true → (48 ≤ c) × (c < 58)
digit c e = grind (arith, nat_tests)

pub digit_value_is : (c : ℕ) → 48 ≤ c → c < 58 → digit_value c ≡ c - 48
digit_value_is c low high = grind (arith, nat_tests)

pub digits_from : (ds : List ℕ) → list_all is_ascii_digit ds ≡ true → AllDigits 10 ds
digits_from [] e = tt
digits_from (c ∷ cs) e =
    let both = and_parts (is_ascii_digit c) (list_all is_ascii_digit cs) e in
    let here = digit c both.0 in
    (rw (digit_value_is c here.0 here.1) (omega arith), digits_from cs both.1)

pub value_steps : (ds : List ℕ) (i : ℕ)
    → i < length ds
    → list_all is_ascii_digit ds ≡ true
    → length ds ≤ MAX_DIGITS
    → (digits_value 10 (take (i + 1) ds) ≡ digits_value 10 (take i ds) * 10 + (get_or ds i 0 - 48))
    × (48 ≤ get_or ds i 0)
    × (get_or ds i 0 < 58)
    × (digits_value 10 (take (i + 1) ds) < 2 ^ 32)
value_steps ds i lt digits few =
    let all = digits_from ds digits in
    let here : (48 ≤ get_or ds i 0) × (get_or ds i 0 ≤ 57) = digit_at ds i all lt in
    let same = digit_value_is (get_or ds i 0) here.0 (omega arith) in
    let more = digits_value_more 10 ds i lt in
    let least = digits_value-take-le 10 ds (i + 1) (lit≤ tt) in
    let limit = digits_value-lt 10 ds all in
    let most : 10 ^ length ds ≤ 10 ^ 9 = grind (arith, pow-le-pow_right) in
    (more ∙ ap (λ d. digits_value 10 (take i ds) * 10 + d) same, here.0, omega arith, omega arith)
