-- A line of pairs isn't that of an image, whatever comes after it.
use Rattle.std.proofs.Common.{◌≡◌, ◌∙◌, List, ◌∷◌, ◌++◌, None, refl, ap, inl, inr, append_assoc}
use Rattle.std.specs.Prelude.{◌==◌, false, codes}
use Rattle.std.proofs.lemmas.List.Elements.{All-cons}
use Rattle.pg_text.specs.Text.{four_parts, parts}
use Rattle.pg_text.proofs.Cuts.{first_and_others, four_three, four_two, just_two, too_many}
use Rattle.pg_image.proofs.Common.{All-append, All-from_recursion, Bytes, Four, Lacks}
use Rattle.pg_cert_files.specs.Shortening.{IsFront}
use Rattle.pg_image.specs.ImageLine.{begun_with, image_line, with_fields}
use Rattle.pg_image.proofs.Signs.{sign_or_none}

-- the word of pairs, a space and these words
abbrev body : Bytes → Bytes
body words = codes "pairs" ++ 32 ∷ words

name_lacks : Lacks 124 (codes "pairs")
name_lacks = All-from_recursion (λ b. (b == 124) ≡ false) (codes "pairs")
    (refl, (refl, (refl, (refl, (refl, tt)))))

name_word : Lacks 32 (codes "pairs")
name_word = All-from_recursion (λ b. (b == 32) ≡ false) (codes "pairs")
    (refl, (refl, (refl, (refl, (refl, tt)))))

body_lacks : (words : Bytes) → Lacks 124 words → Lacks 124 (body words)
body_lacks words lacks = All-append (λ b. (b == 124) ≡ false) (codes "pairs") (32 ∷ words)
    name_lacks (All-cons (λ b. (b == 124) ≡ false) 32 words refl lacks)

of_none : (line : Bytes) → four_parts 124 line ≡ None → image_line line ≡ None
unfolding image_line
of_none line none = rw none refl

of_pairs : (f : Four) (ws : List Bytes) → begun_with f (codes "pairs" ∷ ws) ≡ None
of_pairs f ws = refl

module _ (x y t : Bytes) (no_x : Lacks 124 x) (no_y : Lacks 124 y) (no_t : Lacks 124 t) where
  abbrev line_of : Bytes → Bytes
  line_of words = x ++ 124 ∷ (y ++ 124 ∷ (t ++ 124 ∷ body words))

  quiet : (words : Bytes) → Lacks 124 words → image_line (line_of words) ≡ None
  unfolding image_line
  quiet words lacks =
      let z = body words in
      let four = four_three 124 (line_of words) x (y ++ 124 ∷ (t ++ 124 ∷ z)) y (t ++ 124 ∷ z) t z
      refl no_x refl no_y (just_two 124 (t ++ 124 ∷ z) t z refl no_t (body_lacks words lacks)) in
      let f : Four = record { first = x; second = y; third = t; fourth = z } in
      ap with_fields four
      ∙ ap (begun_with f) (first_and_others z (codes "pairs") words refl name_word)
      ∙ of_pairs f (parts 32 words)

  barred : (words a b : Bytes)
      → words ≡ a ++ 124 ∷ b
      → Lacks 124 a
      → image_line (line_of words) ≡ None
  barred words a b cut lacks =
      let z = body words in
      let more : z ≡ body a ++ 124 ∷ b =
      ap body cut ∙ simp append_assoc in
      of_none (line_of words)
      (four_two 124 (line_of words) x (y ++ 124 ∷ (t ++ 124 ∷ z)) y (t ++ 124 ∷ z) refl no_x refl
      no_y (too_many 124 (t ++ 124 ∷ z) t z (body a) b refl no_t more (body_lacks a lacks)))

  any : (words : Bytes) → image_line (line_of words) ≡ None
  any words = elim (sign_or_none 124 words) as (λ _. image_line (line_of words) ≡ None) [
    | inl lacks ↦ quiet words lacks
    | inr h ↦ barred words h.front h.rest h.cut h.lacks
  ]

pub not_image : (line words more : Bytes) → IsFront line words → image_line (line ++ more) ≡ None
not_image line words more h =
    let whole : line ++ more ≡ line_of h.x h.y h.turn h.no_x h.no_y h.no_turn (words ++ more) =
    ap (λ (l : Bytes). l ++ more) h.cut ∙ simp append_assoc in
    ap image_line whole ∙ any h.x h.y h.turn h.no_x h.no_y h.no_turn (words ++ more)
