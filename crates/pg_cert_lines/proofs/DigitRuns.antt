-- Numbers at the front of a text.
use Rattle.std.proofs.Common.{◌≡◌, ℕ, zero, suc, ◌+◌, ◌-◌, ◌*◌, ◌^◌, ◌<◌, ◌≤◌, lit<, Bool, true}
use Rattle.std.proofs.Common.{false, ◌||◌, [], ◌∷◌, ◌++◌, length, take, drop, get_or, arith, refl}
use Rattle.std.proofs.Common.{sym, ap, subst, ◌∙◌, append_assoc, inl, inr, Option, Some, None}
use Rattle.std.specs.Prelude.{◌==◌, ◌≢◌, not, nat_lt, nat_le, slice_index}
use Rattle.pg_cert_lines.proofs.Common.{is_ascii_digit, list_all, AllByRecursion, digits_value}
use Rattle.pg_cert_lines.proofs.Common.{cases_Bool, and_parts, eqb-true, nat_tests, take_all}
use Rattle.pg_cert_lines.proofs.Common.{length-take-le, length-drop, take-append-drop}
use Rattle.pg_cert_lines.proofs.Common.{All-from_recursion, list_all_more, drop-cons, Bytes, Lacks}
use Rattle.pg_cert_lines.proofs.Common.{parts, words_of, number, MAX_DIGITS, just_two}
use Rattle.pg_cert_lines.proofs.Common.{first_and_others, only_word, all_append}
use Rattle.std.proofs.lemmas.Int.Digits.{digits_value_more, digits_value-lt}
use Rattle.std.proofs.Math.Nat.{pow-le-pow_right}
use Rattle.pg_text.proofs.Digits.{digit, digit_value_is, digits_from}
use Rattle.pg_cert_lines.specs.Numerals.{BeginsWith, IsLeading, with_others, IsFirstNumber}
use Rattle.pg_cert_lines.specs.Numerals.{IsNumberBefore, AreTwoNumbers}

-- one digit more
pub grows : (text : Bytes) (count value d : ℕ)
    → BeginsWith text count value
    → count < MAX_DIGITS
    → count < length text
    → is_ascii_digit (get_or text count 0) ≡ true
    → d ≡ get_or text count 0 - 48
    → (value * 10 + d < 2 ^ 32) × BeginsWith text (count + 1) (value * 10 + d)
grows text count value d begun more lt is e =
    let old = begun.digits in
    let all : list_all is_ascii_digit (take (count + 1) text) ≡ true =
    list_all_more is_ascii_digit text count 0 lt ∙ rw (old, is) refl in
    let here = digit (get_or text count 0) is in
    let same = digit_value_is (get_or text count 0) here.0 here.1 in
    let value_is : digits_value 10 (take (count + 1) text) ≡ value * 10 + d =
    digits_value_more 10 text count lt
    ∙ ap (λ (x : ℕ). digits_value 10 (take count text) * 10 + x) (same ∙ sym e)
    ∙ ap (λ (x : ℕ). x * 10 + d) (sym begun.value) in
    let len = length-take-le (count + 1) text (omega (arith, lt)) in
    let limit =
    digits_value-lt 10 (take (count + 1) text) (digits_from (take (count + 1) text) all) in
    let most : 10 ^ length (take (count + 1) text) ≤ 10 ^ 9 = grind (arith, pow-le-pow_right) in (
      omega (arith, value_is, limit, most),
      record {
        few = omega (arith, more);
        within = omega (arith, lt);
        digits = all;
        value = sym value_is;
      },
    )

or_true : (b : Bool) → (b || true) ≡ true
or_true true = refl
or_true false = refl

no_zero : (text : Bytes) (count : ℕ)
    → 0 < count
    → count ≤ length text
    → (1 < count → get_or text 0 0 ≢ 48)
    → (length (take count text) == 1 || not (slice_index (take count text) 0 == 48)) ≡ true
no_zero [] count some within first = absurd (omega (arith, some, within))
no_zero (b ∷ bs) zero some within first = absurd (omega arith)
no_zero (b ∷ bs) (suc zero) some within first = refl
no_zero (b ∷ bs) (suc (suc k)) some within first =
    let other : b ≢ 48 = first (omega arith) in
    let off : (b == 48) ≡ false = grind (arith, nat_tests) in
    rw off (or_true (length (take (suc (suc k)) (b ∷ bs)) == 1))

-- the digits spell a number
pub leads : (text : Bytes) (count value : ℕ)
    → BeginsWith text count value
    → 0 < count
    → (1 < count → get_or text 0 0 ≢ 48)
    → IsLeading text count value
unfolding number
leads text count value begun some first =
    let len = length-take-le count text begun.within in
    let a : nat_lt 0 (length (take count text)) ≡ true = grind (arith, nat_tests) in
    let b : nat_le (length (take count text)) 9 ≡ true = grind (arith, nat_tests, begun.few) in
    let d = begun.digits in
    let e = no_zero text count some begun.within first in
    record {
      within = begun.within;
      digits = begun.digits;
      spells = rw (a, b, d, e) (ap Some (sym begun.value));
    }

pub split : (text : Bytes) (count b : ℕ)
    → count < length text
    → get_or text count 0 ≡ b
    → text ≡ take count text ++ b ∷ take (length text - (count + 1)) (drop (count + 1) text)
split text count b lt is =
    let next : suc count ≡ count + 1 = omega arith in
    let all : take (length text - (count + 1)) (drop (count + 1) text) ≡ drop (count + 1) text =
    take_all _ _ (omega (arith, length-drop (count + 1) text)) in
    let behind : drop count text ≡ b ∷ take (length text - (count + 1)) (drop (count + 1) text) =
    drop-cons text count 0 lt
    ∙ ap (λ (x : ℕ). x ∷ drop (suc count) text) is
    ∙ ap (λ (n : ℕ). b ∷ drop n text) next
    ∙ ap (λ (t : Bytes). b ∷ t) (sym all) in
    sym (take-append-drop count text) ∙ ap (λ (t : Bytes). take count text ++ t) behind

pub number_whole : (text : Bytes) (count value : ℕ)
    → IsLeading text count value
    → count ≡ length text
    → IsFirstNumber text value None
number_whole text count value h e = record {
  word = take count text;
  cut = sym (take_all count text (omega (arith, e)));
  digits = h.digits;
  spells = h.spells;
}

pub number_space : (text : Bytes) (count value : ℕ)
    → IsLeading text count value
    → count < length text
    → get_or text count 0 ≡ 32
    → IsFirstNumber text value (Some (take (length text - (count + 1)) (drop (count + 1) text)))
number_space text count value h lt is = record {
  word = take count text;
  cut = split text count 32 lt is;
  digits = h.digits;
  spells = h.spells;
}

-- before the first digit
no_digit : (text : Bytes) → BeginsWith text 0 0
no_digit text = record { few = omega arith; within = omega arith; digits = refl; value = refl }

-- one digit with a space behind it
pub one_digit : (text : Bytes) (d : ℕ)
    → 0 < length text
    → is_ascii_digit (get_or text 0 0) ≡ true
    → d ≡ get_or text 0 0 - 48
    → 1 < length text
    → get_or text 1 0 ≡ 32
    → IsFirstNumber text d (Some (take (length text - 2) (drop 2 text)))
one_digit text d some is e more space =
    let grown = grows text 0 0 d (no_digit text) (lit< tt) some is e in
    let value : 0 * 10 + d ≡ d = omega arith in
    let one : BeginsWith text 1 d = subst (λ (v : ℕ). BeginsWith text 1 v) value grown.1 in
    number_space text 1 d
    (leads text 1 d one (lit< tt) (λ several. absurd (omega (arith, several)))) more space

-- two digits with a space behind them
pub two_digits : (text : Bytes) (a b : ℕ)
    → 2 < length text
    → is_ascii_digit (get_or text 0 0) ≡ true
    → a ≡ get_or text 0 0 - 48
    → is_ascii_digit (get_or text 1 0) ≡ true
    → b ≡ get_or text 1 0 - 48
    → get_or text 0 0 ≢ 48
    → get_or text 2 0 ≡ 32
    → IsFirstNumber text (a * 10 + b) (Some (take (length text - 3) (drop 3 text)))
two_digits text a b more is_a a_is is_b b_is first space =
    let grown = grows text 0 0 a (no_digit text) (lit< tt) (omega (arith, more)) is_a a_is in
    let value : 0 * 10 + a ≡ a = omega arith in
    let one : BeginsWith text 1 a = subst (λ (v : ℕ). BeginsWith text 1 v) value grown.1 in
    let two = grows text 1 a b one (lit< tt) (omega (arith, more)) is_b b_is in
    number_space text 2 (a * 10 + b)
    (leads text 2 (a * 10 + b) two.1 (lit< tt) (λ several. first)) more space

pub number_sign : (sign : ℕ) (text : Bytes) (count value : ℕ)
    → IsLeading text count value
    → count < length text
    → get_or text count 0 ≡ sign
    → IsNumberBefore sign text value (take (length text - (count + 1)) (drop (count + 1) text))
number_sign sign text count value h lt is = record {
  front = take count text;
  cut = split text count sign lt is;
  digits = h.digits;
  spells = h.spells;
}

-- ---- words of digits

differs : (d s : ℕ) → is_ascii_digit d ≡ true → is_ascii_digit s ≡ false → (d == s) ≡ false
differs d s is not_digit = elim (cases_Bool (d == s)) [
  | inl on ↦
      let same : d ≡ s = eqb-true d s on in
      absurd (cc (sym is ∙ ap is_ascii_digit same ∙ not_digit))
  | inr off ↦ off
]

without : (s : ℕ) (ds : Bytes)
    → is_ascii_digit s ≡ false
    → list_all is_ascii_digit ds ≡ true
    → AllByRecursion (λ b. (b == s) ≡ false) ds
without s [] not_digit all = tt
without s (d ∷ ds) not_digit all =
    let both = and_parts (is_ascii_digit d) (list_all is_ascii_digit ds) all in
    (differs d s both.0 not_digit, without s ds not_digit both.1)

lacks : (s : ℕ) (ds : Bytes)
    → is_ascii_digit s ≡ false
    → list_all is_ascii_digit ds ≡ true
    → Lacks s ds
lacks s ds not_digit all =
    All-from_recursion (λ b. (b == s) ≡ false) ds (without s ds not_digit all)

cut_words : (word : Bytes) (others : Option Bytes) (text : Bytes)
    → Lacks 32 word
    → text ≡ with_others word others
    → parts 32 text ≡ word ∷ words_of others
cut_words word None text none e = ap (parts 32) e ∙ only_word word none
cut_words word (Some others) text none e = first_and_others text word others e none

pub first_parts : (text : Bytes) (n : ℕ) (others : Option Bytes)
    → (h : IsFirstNumber text n others) → parts 32 text ≡ h.word ∷ words_of others
first_parts text n others h = cut_words h.word others text (lacks 32 h.word refl h.digits) h.cut

behind : (sign : ℕ) (front word : Bytes) (others : Option Bytes)
    → front ++ sign ∷ with_others word others ≡ with_others (front ++ sign ∷ word) others
behind sign front word None = refl
behind sign front word (Some others) = sym (append_assoc front (sign ∷ word) (32 ∷ others))

pub numbers_are : (sign : ℕ) (text second : Bytes) (a b : ℕ) (others : Option Bytes)
    → is_ascii_digit sign ≡ false
    → sign ≢ 32
    → IsNumberBefore sign text a second
    → IsFirstNumber second b others
    → AreTwoNumbers sign text a b others
numbers_are sign text second a b others not_digit space h k =
    let off : (sign == 32) ≡ false = grind (arith, nat_tests) in
    let word = h.front ++ sign ∷ k.word in
    let none : Lacks 32 word = All-from_recursion (λ b. (b == 32) ≡ false) word
    (all_append (λ b. (b == 32) ≡ false) h.front (sign ∷ k.word) (without 32 h.front refl h.digits)
    (off, without 32 k.word refl k.digits)) in
    record {
      first = h.front;
      second = k.word;
      cut = cut_words word others text none
          (h.cut ∙ ap (λ (t : Bytes). h.front ++ sign ∷ t) k.cut
          ∙ behind sign h.front k.word others);
      two = just_two sign word h.front k.word refl (lacks sign h.front not_digit h.digits)
          (lacks sign k.word not_digit k.digits);
      a_number = h.spells;
      b_number = k.spells;
    }
