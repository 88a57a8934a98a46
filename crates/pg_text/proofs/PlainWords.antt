-- Words of plain signs: joined by spaces they are cut again into the same words, and their text has
-- no other signs.
use Rattle.std.proofs.Common.{◌≡◌, ℕ, ◌^◌, ◌<◌, ◌≤◌, false, List, [], ◌∷◌, arith, refl, ap, ◌∙◌}
use Rattle.std.specs.Prelude.{◌==◌}
use Rattle.pg_text.proofs.Common.{decimal, AllByRecursion, nat_tests, append-nil}
use Rattle.pg_text.proofs.Common.{All-from_recursion}
use Rattle.pg_text.specs.Text.{Bytes, Lacks, parts, spaced, behind_spaces}
use Rattle.pg_text.proofs.Cuts.{first_and_others, only_word}
use Rattle.pg_text.proofs.Decimals.{IsDigit, all_append, all_of, decimal_digits}

-- a byte of a word
abbrev pub IsPlain : ℕ → Type 0
IsPlain b = (32 < b) × (b < 124)

-- a byte of words and of what stands between them
abbrev pub IsQuiet : ℕ → Type 0
IsQuiet b = (32 ≤ b) × (b < 124)

abbrev pub IsWord : Bytes → Type 0
IsWord w = AllByRecursion IsPlain w

plain_digit : (b : ℕ) → IsDigit b → IsPlain b
plain_digit b h = (omega (arith, h.0), omega (arith, h.1))

pub decimal_is_word : (n : ℕ) → n < 2 ^ 64 → IsWord (decimal n)
decimal_is_word n wide = all_of IsDigit IsPlain plain_digit (decimal n) (decimal_digits n wide)

no_space : (b : ℕ) → IsPlain b → (b == 32) ≡ false
no_space b h = grind (arith, nat_tests, h.0)

pub lacks_space : (w : Bytes) → IsWord w → Lacks 32 w
lacks_space w h = All-from_recursion (λ b. (b == 32) ≡ false) w
    (all_of IsPlain (λ b. (b == 32) ≡ false) no_space w h)

pub words_spaced : (w : Bytes) (ws : List Bytes)
    → IsWord w
    → AllByRecursion IsWord ws
    → parts 32 (spaced (w ∷ ws)) ≡ w ∷ ws
words_spaced w [] h k = ap (parts 32) (append-nil w) ∙ only_word w (lacks_space w h)
words_spaced w (v ∷ vs) h k =
    first_and_others (spaced (w ∷ v ∷ vs)) w (spaced (v ∷ vs)) refl (lacks_space w h)
    ∙ ap (λ (x : List Bytes). w ∷ x) (words_spaced v vs k.0 k.1)

-- ---- the bytes of their text

quiet : (b : ℕ) → IsPlain b → IsQuiet b
quiet b h = (omega (arith, h.0), h.1)

pub word_quiet : (w : Bytes) → IsWord w → AllByRecursion IsQuiet w
word_quiet w h = all_of IsPlain IsQuiet quiet w h

behind_quiet : (ws : List Bytes)
    → AllByRecursion IsWord ws
    → AllByRecursion IsQuiet (behind_spaces ws)
behind_quiet [] h = tt
behind_quiet (w ∷ ws) h = (
  (omega arith, omega arith),
  all_append IsQuiet w (behind_spaces ws) (word_quiet w h.0) (behind_quiet ws h.1),
)

pub spaced_quiet : (ws : List Bytes) → AllByRecursion IsWord ws → AllByRecursion IsQuiet (spaced ws)
spaced_quiet [] h = tt
spaced_quiet (w ∷ ws) h =
    all_append IsQuiet w (behind_spaces ws) (word_quiet w h.0) (behind_quiet ws h.1)

no_feed : (b : ℕ) → IsQuiet b → (b == 10) ≡ false
no_feed b h = grind (arith, nat_tests, h.0)

pub quiet_text : (t : Bytes) → AllByRecursion IsQuiet t → AllByRecursion (λ b. (b == 10) ≡ false) t
quiet_text t h = all_of IsQuiet (λ b. (b == 10) ≡ false) no_feed t h

pub quiet_lacks_feed : (t : Bytes) → AllByRecursion IsQuiet t → Lacks 10 t
quiet_lacks_feed t h = All-from_recursion (λ b. (b == 10) ≡ false) t (quiet_text t h)
