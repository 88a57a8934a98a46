-- A text that is cut at a sign.
use Rattle.std.proofs.Common.{◌≡◌, ℕ, suc, ◌+◌, ◌-◌, ◌<◌, ◌≤◌, Bool, true, List, []}
use Rattle.std.proofs.Common.{◌∷◌, ◌++◌, length, take, drop, get_or, get_or-take, slice_index}
use Rattle.std.proofs.Common.{arith, refl, sym, ap, ◌∙◌, inl, inr, Option, Some, None}
use Rattle.std.specs.Prelude.{◌==◌}
use Rattle.pg_text.proofs.Common.{position, position_or_len, cases_Bool, eqb-true, nat_tests}
use Rattle.pg_text.proofs.Common.{take_all, length-take-le, length-drop, take-append-drop}
use Rattle.pg_text.proofs.Common.{position_or_len_is, slice_split_at, slice_split_none}
use Rattle.pg_text.proofs.Common.{length-slice_split, SPACE}
use Rattle.std.proofs.lemmas.List.Quantifiers.{position-Some}
use Rattle.std.proofs.lemmas.Grind.{get_or_default_zero}
use Rattle.std.proofs.Math.Seq.{drop-cons}
use Rattle.memchr.specs.Find.{IsFirstByte, is_byte}
use Rattle.pg_text.specs.Text.{Bytes, Lacks, parts, pair_of, two_parts, Four, four_of, four_parts}

abbrev is_sign : ℕ → ℕ → Bool
is_sign sign b = b == sign

pub first_is : (p : ℕ → Bool) (text : Bytes) (end : ℕ)
    → position p text ≡ Some end
    → (end < length text) × (position_or_len p text ≡ end)
first_is p text end e =
    let found = position-Some p text end 0 e in
    (found.0, position_or_len_is p text end 0 (omega (arith, found.0)) found.2 (λ lt. found.1))

-- no sign stands before the first
front_lacks : (sign : ℕ) (text : Bytes) (end : ℕ)
    → end ≤ length text
    → ((k : ℕ) → 0 ≤ k → k < end → (is_byte sign (slice_index text k) ≡ true) → ⊥)
    → Lacks sign (take end text)
front_lacks sign text end within none = λ i d lt.
    let len = length-take-le end text within in
    let inside : i < end = omega (arith, lt, len) in
    let here : get_or (take end text) i d ≡ slice_index text i = get_or-take end text i d inside
    ∙ get_or_default_zero text i d (omega (arith, inside, within)) in
    ap (λ (b : ℕ). b == sign) here
    ∙ elim (cases_Bool (slice_index text i == sign)) [
      | inl on ↦ absurd (none i (omega arith) inside on)
      | inr off ↦ off
    ]

pub found_at : (sign : ℕ) (text : Bytes) (end : ℕ)
    → IsFirstByte (is_byte sign) text (Some end)
    → (text ≡ take end text ++ sign ∷ take (length text - (end + 1)) (drop (end + 1) text))
    × Lacks sign (take end text)
found_at sign text end h =
    let lt : end < length text = h.0.high in
    let here : get_or text end 0 ≡ sign = eqb-true (slice_index text end) sign h.1 in
    let next : suc end ≡ end + 1 = omega arith in
    let all : take (length text - (end + 1)) (drop (end + 1) text) ≡ drop (end + 1) text =
    take_all _ _ (omega (arith, length-drop (end + 1) text)) in
    let behind : drop end text ≡ sign ∷ take (length text - (end + 1)) (drop (end + 1) text) =
    drop-cons text end 0 lt
    ∙ ap (λ (x : ℕ). x ∷ drop (suc end) text) here
    ∙ ap (λ (n : ℕ). sign ∷ drop n text) next
    ∙ ap (λ (t : Bytes). sign ∷ t) (sym all) in (
      sym (take-append-drop end text) ∙ ap (λ (t : Bytes). take end text ++ t) behind,
      front_lacks sign text end (omega (arith, lt)) h.0.before,
    )

pub not_found : (sign : ℕ) (text : Bytes) → IsFirstByte (is_byte sign) text None → Lacks sign text
not_found sign text none = λ i d lt.
    let here : get_or text i d ≡ slice_index text i = get_or_default_zero text i d lt in
    ap (λ (b : ℕ). b == sign) here
    ∙ elim (cases_Bool (slice_index text i == sign)) [
      | inl on ↦ absurd (none i (omega arith) lt on)
      | inr off ↦ off
    ]

is_itself : (sign : ℕ) → is_sign sign sign ≡ true
is_itself sign = grind (arith, nat_tests)

cut_parts : (sign : ℕ) (text front behind : Bytes)
    → text ≡ front ++ sign ∷ behind
    → Lacks sign front
    → parts sign text ≡ front ∷ parts sign behind
cut_parts sign text front behind e lacks =
    ap (parts sign) e ∙ slice_split_at (is_sign sign) front sign behind lacks (is_itself sign)

pub no_parts : (sign : ℕ) (word : Bytes) → Lacks sign word → two_parts sign word ≡ None
unfolding two_parts
no_parts sign word lacks = ap pair_of (slice_split_none (is_sign sign) word lacks)

pub just_two : (sign : ℕ) (word a b : Bytes)
    → word ≡ a ++ sign ∷ b
    → Lacks sign a
    → Lacks sign b
    → two_parts sign word ≡ Some (a, b)
unfolding two_parts
just_two sign word a b e lacks lacking = ap pair_of (cut_parts sign word a b e lacks
    ∙ ap (λ (ps : List Bytes). a ∷ ps) (slice_split_none (is_sign sign) b lacking))

many : (a c : Bytes) (ps : List Bytes) → 0 < length ps → pair_of (a ∷ c ∷ ps) ≡ None
many a c [] h = absurd (omega arith)
many a c (p ∷ ps) h = refl

pub too_many : (sign : ℕ) (word a b c d : Bytes)
    → word ≡ a ++ sign ∷ b
    → Lacks sign a
    → b ≡ c ++ sign ∷ d
    → Lacks sign c
    → two_parts sign word ≡ None
unfolding two_parts
too_many sign word a b c d e lacks f lacking = ap pair_of (cut_parts sign word a b e lacks
    ∙ ap (λ (ps : List Bytes). a ∷ ps) (cut_parts sign b c d f lacking))
    ∙ many a c (parts sign d) (omega (arith, length-slice_split (is_sign sign) d))

-- ---- words

pub first_and_others : (text word others : Bytes)
    → text ≡ word ++ SPACE ∷ others
    → Lacks SPACE word
    → parts SPACE text ≡ word ∷ parts SPACE others
first_and_others text word others e lacks = cut_parts SPACE text word others e lacks

pub only_word : (text : Bytes) → Lacks SPACE text → parts SPACE text ≡ text ∷ []
only_word text lacks = slice_split_none (is_sign SPACE) text lacks

-- a text has at least one part
pub some_part : (sign : ℕ) (text : Bytes) → 0 < length (parts sign text)
some_part sign text = omega (arith, length-slice_split (is_sign sign) text)

-- ---- four parts

pub four_none : (sign : ℕ) (text : Bytes) → Lacks sign text → four_parts sign text ≡ None
unfolding four_parts
four_none sign text lacks = ap four_of (slice_split_none (is_sign sign) text lacks)

pub four_one : (sign : ℕ) (text a b : Bytes)
    → text ≡ a ++ sign ∷ b
    → Lacks sign a
    → Lacks sign b
    → four_parts sign text ≡ None
unfolding four_parts
four_one sign text a b e lacks lacking = ap four_of (cut_parts sign text a b e lacks
    ∙ ap (λ (ps : List Bytes). a ∷ ps) (slice_split_none (is_sign sign) b lacking))

-- the last two parts of four
abbrev four_from : Bytes → Bytes → Option (Bytes × Bytes) → Option Four
four_from a c None = None
four_from a c (Some p) = Some (record { first = a; second = c; third = p.0; fourth = p.1 })

four_from_list : (a c : Bytes) (ps : List Bytes) → four_of (a ∷ c ∷ ps) ≡ four_from a c (pair_of ps)
four_from_list a c [] = refl
four_from_list a c (p ∷ []) = refl
four_from_list a c (p ∷ q ∷ []) = refl
four_from_list a c (p ∷ q ∷ r ∷ ps) = refl

four_is : (sign : ℕ) (text a b c d : Bytes)
    → text ≡ a ++ sign ∷ b
    → Lacks sign a
    → b ≡ c ++ sign ∷ d
    → Lacks sign c
    → four_parts sign text ≡ four_from a c (two_parts sign d)
unfolding four_parts two_parts
four_is sign text a b c d e lacks f lacking = ap four_of (cut_parts sign text a b e lacks
    ∙ ap (λ (ps : List Bytes). a ∷ ps) (cut_parts sign b c d f lacking))
    ∙ four_from_list a c (parts sign d)

pub four_two : (sign : ℕ) (text a b c d : Bytes)
    → text ≡ a ++ sign ∷ b
    → Lacks sign a
    → b ≡ c ++ sign ∷ d
    → Lacks sign c
    → two_parts sign d ≡ None
    → four_parts sign text ≡ None
four_two sign text a b c d e lacks f lacking none =
    four_is sign text a b c d e lacks f lacking ∙ ap (four_from a c) none

pub four_three : (sign : ℕ) (text a b c d p q : Bytes)
    → text ≡ a ++ sign ∷ b
    → Lacks sign a
    → b ≡ c ++ sign ∷ d
    → Lacks sign c
    → two_parts sign d ≡ Some (p, q)
    → four_parts sign text ≡ Some (record { first = a; second = c; third = p; fourth = q })
four_three sign text a b c d p q e lacks f lacking some =
    four_is sign text a b c d e lacks f lacking ∙ ap (four_from a c) some
