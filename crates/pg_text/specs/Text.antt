-- Text of signs and words: parts with one sign between each two, lines, words behind single spaces,
-- and numbers.
use Rattle.std.specs.Prelude.{◌≡◌, ℕ, ◌+◌, Bool, true, false, ◌&&◌, ◌||◌, not, nat_lt, nat_le, ◌==◌}
use Rattle.std.specs.Prelude.{if◌then◌else◌, List, [], ◌∷◌, ◌++◌, length, slice_index, Option, Some}
use Rattle.std.specs.Prelude.{None, option_map, filter}
use Rattle.pg_text.specs.Prelude.{is_ascii_digit, slice_split, list_all, flat_map, All}
use Rattle.pg_text.specs.Prelude.{digits_value}
pub use Rattle.pg_base.specs.Texts.{Bytes}
use Rattle.pg_base.specs.declared.signs.TheConstants.{LINE_FEED, SPACE}
use Rattle.pg_text.specs.declared.numbers.TheConstants.{MAX_DIGITS}

-- what stands between the signs, empty parts too
abbrev pub parts : ℕ → Bytes → List Bytes
parts sign text = slice_split (λ b. b == sign) text

-- A text is cut into lines at each line feed. One that ends the text begins no further line.
abbrev pub without_empty_end : List Bytes → List Bytes
without_empty_end [] = []
without_empty_end (part ∷ []) = if length part == 0 then [] else part ∷ []
without_empty_end (part ∷ next ∷ parts) = part ∷ without_empty_end (next ∷ parts)

unfoldable pub lines : Bytes → List Bytes
lines text = without_empty_end (slice_split (λ b. b == LINE_FEED) text)

-- two parts, and no more
abbrev pub pair_of : List Bytes → Option (Bytes × Bytes)
pair_of (a ∷ b ∷ []) = Some (a, b)
pair_of _ = None

-- what stands on both sides of the one sign
unfoldable pub two_parts : ℕ → Bytes → Option (Bytes × Bytes)
two_parts sign text = pair_of (parts sign text)

-- four parts of a text
pub record Four : Type 0 where
  pub first : Bytes
  pub second : Bytes
  pub third : Bytes
  pub fourth : Bytes

-- four parts, and no more
abbrev pub four_of : List Bytes → Option Four
four_of (a ∷ b ∷ c ∷ d ∷ []) = Some (record { first = a; second = b; third = c; fourth = d })
four_of _ = None

-- what stands around the three signs
unfoldable pub four_parts : ℕ → Bytes → Option Four
four_parts sign text = four_of (parts sign text)

-- the words of a text, of which there may be none at all; a space stands between each two, and
-- words may be empty
abbrev pub words_of : Option Bytes → List Bytes
words_of None = []
words_of (Some text) = parts SPACE text

-- A word is a longest run of bytes other than a space: any number of spaces stands between words.
unfoldable pub words : Bytes → List Bytes
words line = filter (λ w. not (length w == 0)) (slice_split (λ b. b == SPACE) line)

-- one to nine digits, the first of several not 0
abbrev pub is_numeral : Bytes → Bool
is_numeral word = nat_lt 0 (length word)
    && nat_le (length word) MAX_DIGITS
    && list_all is_ascii_digit word
    && (length word == 1 || not (slice_index word 0 == 48))

-- the number that a word spells
unfoldable pub number : Bytes → Option ℕ
number word = if is_numeral word then Some (digits_value 10 word) else None

-- the numbers of the words, if each is one
abbrev pub onto : ℕ → Option (List ℕ) → Option (List ℕ)
onto n found = option_map (λ ns. n ∷ ns) found

abbrev pub then_numbers : Option ℕ → Option (List ℕ) → Option (List ℕ)
then_numbers None found = None
then_numbers (Some n) found = onto n found

unfoldable pub numbers : List Bytes → Option (List ℕ)
numbers [] = Some []
numbers (word ∷ others) = then_numbers (number word) (numbers others)

-- the numbers ascend, each above the one before it and the first not below n
abbrev pub ascend_from : ℕ → List ℕ → Bool
ascend_from n [] = true
ascend_from n (p ∷ ps) = nat_le n p && ascend_from (p + 1) ps

-- no byte of the text is the sign
abbrev pub Lacks : ℕ → Bytes → Type 0
Lacks sign text = All (λ b. (b == sign) ≡ false) text

-- words, each behind a space
abbrev pub behind_spaces : List Bytes → Bytes
behind_spaces ws = flat_map (λ w. SPACE ∷ w) ws

-- words with a space between each two
abbrev pub spaced : List Bytes → Bytes
spaced [] = []
spaced (word ∷ others) = word ++ behind_spaces others

-- a line of words with its line feed
abbrev pub spelled : List Bytes → Bytes
spelled ws = spaced ws ++ LINE_FEED ∷ []
