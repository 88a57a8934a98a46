-- Numbers that stand at the front of a text, and the word that they make.
use Rattle.std.specs.Prelude.{◌≡◌, ℕ, ◌≤◌, true, is_some, ◌∷◌, ◌++◌, length, take, Option, Some}
use Rattle.std.specs.Prelude.{None, Result, Ok}
use Rattle.pg_cert_lines.specs.Prelude.{is_ascii_digit, list_all, digits_value, SPACE, Bytes, parts}
use Rattle.pg_cert_lines.specs.Prelude.{words_of, number, two_parts, MAX_DIGITS}
use Rattle.pg_cert_lines.specs.declared.fault.Fault.{Fault}

-- the text begins with so many digits, which write the number
pub record BeginsWith (text : Bytes) (count written : ℕ) : Type 0 where
  pub few : count ≤ MAX_DIGITS
  pub within : count ≤ length text
  pub digits : list_all is_ascii_digit (take count text) ≡ true
  pub value : written ≡ digits_value 10 (take count text)

-- these digits spell the number
pub record IsLeading (text : Bytes) (count value : ℕ) : Type 0 where
  pub within : count ≤ length text
  pub digits : list_all is_ascii_digit (take count text) ≡ true
  pub spells : number (take count text) ≡ Some value

-- a word, and the text of the others behind a space, if there are any
abbrev pub with_others : Bytes → Option Bytes → Bytes
with_others word None = word
with_others word (Some others) = word ++ SPACE ∷ others

-- the first word spells the number
pub record IsFirstNumber (text : Bytes) (n : ℕ) (others : Option Bytes) : Type 0 where
  pub word : Bytes
  pub cut : text ≡ with_others word others
  pub digits : list_all is_ascii_digit word ≡ true
  pub spells : number word ≡ Some n

-- the number stands before the sign
pub record IsNumberBefore (sign : ℕ) (text : Bytes) (n : ℕ) (behind : Bytes) : Type 0 where
  pub front : Bytes
  pub cut : text ≡ front ++ sign ∷ behind
  pub digits : list_all is_ascii_digit front ≡ true
  pub spells : number front ≡ Some n

-- the first word is two numbers with the sign between them
pub record AreTwoNumbers (sign : ℕ) (text : Bytes) (a b : ℕ) (others : Option Bytes) : Type 0 where
  pub first : Bytes
  pub second : Bytes
  pub cut : parts SPACE text ≡ (first ++ sign ∷ second) ∷ words_of others
  pub two : two_parts sign (first ++ sign ∷ second) ≡ Some (first, second)
  pub a_number : number first ≡ Some a
  pub b_number : number second ≡ Some b

-- the first word has the sign once, and this is what it says
pub record SaysFirst {A : Type 0} (sign : ℕ) (read : Bytes → Result A Fault) (text : Bytes) (a : A)
    (others : Option Bytes) : Type 0 where
  pub word : Bytes
  pub cut : parts SPACE text ≡ word ∷ words_of others
  pub form : is_some (two_parts sign word) ≡ true
  pub says : read word ≡ Ok a
