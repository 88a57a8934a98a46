-- Words that are joined are cut again into the same words.
use Rattle.std.proofs.Common.{◌≡◌, ℕ, ◌^◌, ◌<◌, Bool, true, false, ◌&&◌, List, [], ◌∷◌, ◌++◌}
use Rattle.std.proofs.Common.{length, map, arith, refl, ap, ◌∙◌, append_assoc}
use Rattle.std.specs.Prelude.{◌==◌, nat_lt, not, filter, Some}
use Rattle.pg_files.proofs.Common.{decimal, list_all, flat_map, AllByRecursion, nat_tests}
use Rattle.pg_files.proofs.Common.{decimal_is_IsNumeral, ltb-true, and_parts, Bytes, Lacks, spaced}
use Rattle.pg_files.proofs.Common.{lines, spelled, words, numbers}
use Rattle.pg_text.proofs.Decimals.{all_pass, number_decimal}
use Rattle.pg_text.proofs.PlainWords.{IsPlain, IsQuiet, IsWord, decimal_is_word, words_spaced}
use Rattle.pg_text.proofs.PlainWords.{spaced_quiet, quiet_lacks_feed}
use Rattle.pg_text.proofs.FirstLine.{lines_feed}
use Rattle.pg_files.specs.GameFile.{is_printable}

abbrev is_plain : ℕ → Bool
is_plain b = nat_lt 32 b && nat_lt b 124

abbrev some : Bytes → Bool
some w = not (length w == 0)

abbrev pub is_word : Bytes → Bool
is_word w = some w && list_all is_plain w

plain_word : (w : Bytes) → list_all is_plain w ≡ true → IsWord w
plain_word [] e = tt
plain_word (b ∷ bs) e =
    let both = and_parts (is_plain b) (list_all is_plain bs) e in
    let here = and_parts (nat_lt 32 b) (nat_lt b 124) both.0 in
    ((ltb-true 32 b here.0, ltb-true b 124 here.1), plain_word bs both.1)

plain_words : (ws : List Bytes) → list_all is_word ws ≡ true → AllByRecursion IsWord ws
plain_words [] e = tt
plain_words (w ∷ ws) e =
    let both = and_parts (is_word w) (list_all is_word ws) e in
    (plain_word w (and_parts (some w) (list_all is_plain w) both.0).1, plain_words ws both.1)

no_feeds : (ws : List Bytes) → list_all is_word ws ≡ true → Lacks 10 (spaced ws)
no_feeds ws e = quiet_lacks_feed (spaced ws) (spaced_quiet ws (plain_words ws e))

quiet_printable : (b : ℕ) → IsQuiet b → is_printable b ≡ true
quiet_printable b h = grind (arith, nat_tests, h.0, h.1)

pub spaced_printable : (ws : List Bytes)
    → list_all is_word ws ≡ true
    → list_all is_printable (spaced ws) ≡ true
spaced_printable ws e =
    all_pass IsQuiet is_printable quiet_printable (spaced ws) (spaced_quiet ws (plain_words ws e))

some_stay : (ws : List Bytes) → list_all is_word ws ≡ true → filter some ws ≡ ws
some_stay [] e = refl
some_stay (w ∷ ws) e =
    let both = and_parts (is_word w) (list_all is_word ws) e in
    rw (and_parts (some w) (list_all is_plain w) both.0).0
    (ap (λ (x : List Bytes). w ∷ x) (some_stay ws both.1))

pub words_again : (w : Bytes) (ws : List Bytes)
    → list_all is_word (w ∷ ws) ≡ true
    → words (spaced (w ∷ ws)) ≡ w ∷ ws
unfolding words
words_again w ws e =
    let plain = plain_words (w ∷ ws) e in
    ap (filter some) (words_spaced w ws plain.0 plain.1) ∙ some_stay (w ∷ ws) e

pub small_number : (n : ℕ) → nat_lt n 1000 ≡ true → n < 10 ^ 9
small_number n e = omega (arith, ltb-true n 1000 e)

pub numbers_decimals : (ns : List ℕ)
    → list_all (λ n. nat_lt n 1000) ns ≡ true
    → numbers (map decimal ns) ≡ Some ns
unfolding numbers
numbers_decimals [] e = refl
numbers_decimals (n ∷ ns) e =
    let both = and_parts (nat_lt n 1000) (list_all (λ n. nat_lt n 1000) ns) e in
    rw (number_decimal n (small_number n both.0), numbers_decimals ns both.1) refl

-- a text of printed lines
pub lines_spelled : (wss : List (List Bytes))
    → AllByRecursion (λ ws. list_all is_word ws ≡ true) wss
    → lines (flat_map spelled wss) ≡ map spaced wss
unfolding lines
lines_spelled [] h = refl
lines_spelled (ws ∷ wss) h =
    let text = flat_map spelled wss in
    let regrouped : flat_map spelled (ws ∷ wss) ≡ spaced ws ++ 10 ∷ text =
    append_assoc (spaced ws) (10 ∷ []) text in
    ap lines regrouped
    ∙ lines_feed (spaced ws) text (no_feeds ws h.0)
    ∙ ap (λ (x : List Bytes). spaced ws ∷ x) (lines_spelled wss h.1)

is_plain_if : (b : ℕ) → IsPlain b → is_plain b ≡ true
is_plain_if b h = grind (arith, nat_tests, h.0, h.1)

decimal_passes : (n : ℕ) → n < 2 ^ 64 → is_word (decimal n) ≡ true
decimal_passes n wide =
    let longer : (length (decimal n) == 0) ≡ false =
    grind (arith, nat_tests, (decimal_is_IsNumeral n wide).0.0) in
    rw longer (all_pass IsPlain is_plain is_plain_if (decimal n) (decimal_is_word n wide))

pub decimals_are_words : (ns : List ℕ)
    → list_all (λ n. nat_lt n 1000) ns ≡ true
    → list_all is_word (map decimal ns) ≡ true
decimals_are_words [] e = refl
decimals_are_words (n ∷ ns) e =
    let both = and_parts (nat_lt n 1000) (list_all (λ n. nat_lt n 1000) ns) e in
    rw (decimal_passes n (omega (arith, small_number n both.0)), decimals_are_words ns both.1) refl
