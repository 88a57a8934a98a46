-- A text shows by its first bytes whether it has images.
use Rattle.std.proofs.Common.{◌≡◌, ℕ, ◌+◌, ◌-◌, ◌≤◌, ◌<◌, Bool, true, false, [], ◌∷◌, ◌++◌, length}
use Rattle.std.proofs.Common.{take, drop, nat_lt, arith, refl, sym, ◌∙◌, ap, inl, inr}
use Rattle.std.specs.Prelude.{◌==◌, min}
use Rattle.pg_evidence.proofs.Common.{append-nil, append_assoc, bytes_eq, length-append, Lacks}
use Rattle.pg_evidence.proofs.Common.{Bytes, image_header}
use Rattle.std.proofs.Math.Seq.{take-append-add}
use Rattle.std.proofs.lemmas.Bool.{cases_lt, or_parts}
use Rattle.std.proofs.lemmas.Bool.Decides.{nat_tests}
use Rattle.std.proofs.lemmas.List.{length-take-le, take-append-drop, take-append-le, take_all}
use Rattle.std.proofs.lemmas.List.{take_min}
use Rattle.std.proofs.lemmas.List.Elements.{All-append}
use Rattle.std.proofs.lemmas.Slice.Eq.{bytes_eq-Decides}
use Rattle.pg_base.specs.declared.signs.TheConstants.{LINE_FEED}
use Rattle.pg_image.proofs.Signs.{sign_or_none}
use Rattle.pg_text.proofs.FirstLine.{last_line, lines_feed}
use Rattle.pg_evidence.specs.Evidence.{begins_with_images, has_images}
use Rattle.pg_evidence.specs.Incoming.{HasNoImages, may_have_images}
use Rattle.pg_evidence.specs.declared.first_line.TheConstants.{FIRST_LINE_BYTES}

with_feed : (front behind : Bytes)
    → Lacks LINE_FEED front
    → has_images (front ++ LINE_FEED ∷ behind) ≡ bytes_eq front image_header
with_feed front behind lacks = ap begins_with_images (lines_feed front behind lacks)

alone : (text : Bytes)
    → 0 < length text
    → Lacks LINE_FEED text
    → has_images text ≡ bytes_eq text image_header
alone text some lacks = ap begins_with_images (last_line text some lacks)

-- a longer line is another
longer : (line : Bytes) → FIRST_LINE_BYTES ≤ length line → bytes_eq line image_header ≡ false
longer line long = go (bytes_eq line image_header) refl where
  go : (b : Bool) → bytes_eq line image_header ≡ b → b ≡ false
  go false is = refl
  go true is =
      let e : length line ≡ 14 = ap length ((bytes_eq-Decides line image_header).0 is) in
      absurd (omega (arith, e, long))

long_without : (text rest : Bytes)
    → FIRST_LINE_BYTES ≤ length text
    → Lacks LINE_FEED text
    → has_images (text ++ rest) ≡ false
long_without text rest long lacks =
    elim (sign_or_none LINE_FEED rest) as (λ _. has_images (text ++ rest) ≡ false) [
      | inl none ↦
          let more = length-append text rest in
          alone (text ++ rest) (omega (arith, more, long))
          (All-append (λ x. (x == LINE_FEED) ≡ false) text rest lacks none)
          ∙ longer (text ++ rest) (omega (arith, more, long))
      | inr h ↦
          let more = length-append text h.front in
          let same : text ++ rest ≡ (text ++ h.front) ++ LINE_FEED ∷ h.rest =
          ap (λ (t : Bytes). text ++ t) h.cut
          ∙ sym (append_assoc text h.front (LINE_FEED ∷ h.rest)) in
          ap has_images same
          ∙ with_feed (text ++ h.front) h.rest
          (All-append (λ x. (x == LINE_FEED) ≡ false) text h.front lacks h.lacks)
          ∙ longer (text ++ h.front) (omega (arith, more, long))
    ]

-- where so many bytes have come, the text has images if they have
stays : (text rest : Bytes)
    → FIRST_LINE_BYTES ≤ length text
    → has_images (text ++ rest) ≡ has_images text
stays text rest long =
    elim (sign_or_none LINE_FEED text) as (λ _. has_images (text ++ rest) ≡ has_images text) [
      | inl lacks ↦ long_without text rest long lacks
          ∙ sym (alone text (omega (arith, long)) lacks ∙ longer text long)
      | inr h ↦
          let same : text ++ rest ≡ h.front ++ LINE_FEED ∷ (h.rest ++ rest) =
          ap (λ (t : Bytes). t ++ rest) h.cut ∙ append_assoc h.front (LINE_FEED ∷ h.rest) rest in
          ap has_images same
          ∙ with_feed h.front (h.rest ++ rest) h.lacks
          ∙ sym (ap has_images h.cut ∙ with_feed h.front h.rest h.lacks)
    ]

-- ---- the first bytes

pub first_shows : (text : Bytes) → has_images (take FIRST_LINE_BYTES text) ≡ has_images text
first_shows text = elim (cases_lt (length text) FIRST_LINE_BYTES) [
  | inl few ↦ ap has_images (take_all FIRST_LINE_BYTES text (omega (arith, few)))
  | inr many ↦
      let front = take FIRST_LINE_BYTES text in
      let size : length front ≡ FIRST_LINE_BYTES = length-take-le FIRST_LINE_BYTES text many in
      sym (stays front (drop FIRST_LINE_BYTES text) (omega (arith, size)))
      ∙ ap has_images (take-append-drop FIRST_LINE_BYTES text)
]

-- of a text of which they can't begin one with images nothing is kept
pub no_images : (text : Bytes)
    → may_have_images (take FIRST_LINE_BYTES text) ≡ false
    → HasNoImages text
no_images text none rest =
    let front = take FIRST_LINE_BYTES text in
    let parts = or_parts (nat_lt (length front) FIRST_LINE_BYTES) (has_images front) none in
    let long : FIRST_LINE_BYTES ≤ length front = grind (arith, nat_tests, parts.0) in
    let whole : FIRST_LINE_BYTES ≤ length text = omega (
      arith,
      long,
      ap length (take-append-drop FIRST_LINE_BYTES text),
      length-append front (drop FIRST_LINE_BYTES text),
    ) in
    stays text rest whole ∙ sym (first_shows text) ∙ parts.1

pub never_images : (text : Bytes) → HasNoImages text → has_images text ≡ false
never_images text none = ap has_images (sym (append-nil text)) ∙ none []

-- the first bytes of a text with a piece behind it
pub first_more : (n : ℕ) (text piece : Bytes)
    → take n text ++ take (min (n - length (take n text)) (length piece)) piece
    ≡ take n (text ++ piece)
first_more n text piece = ap (λ (t : Bytes). take n text ++ t)
    (take_min (n - length (take n text)) piece)
    ∙ elim (cases_lt (length text) n) as (λ _. take n text ++ take (n - length (take n text)) piece
    ≡ take n (text ++ piece)) [
      | inl few ↦
          let all : take n text ≡ text = take_all n text (omega (arith, few)) in
          let size : n ≡ length text + (n - length text) = omega (arith, few) in
          ap (λ (t : Bytes). t ++ take (n - length t) piece) all
          ∙ sym (take-append-add text piece (n - length text))
          ∙ ap (λ (k : ℕ). take k (text ++ piece)) (sym size)
      | inr many ↦
          let size : n - length (take n text) ≡ 0 = omega (arith, length-take-le n text many) in
          ap (λ (k : ℕ). take n text ++ take k piece) size
          ∙ append-nil (take n text)
          ∙ sym (take-append-le n text piece many)
    ]
