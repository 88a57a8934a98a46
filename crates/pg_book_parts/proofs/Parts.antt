-- Pieces of books that are whole, with the identities of their sections and links that lead
-- somewhere.
use Rattle.std.proofs.Common.{◌≡◌, ◌∙◌, ℕ, zero, suc, ◌+◌, ◌<◌, ◌≤◌, List, [], ◌∷◌, ◌++◌, refl, sym}
use Rattle.std.proofs.Common.{ap, subst, arith, append_assoc}
use Rattle.std.specs.List.{All, flat_map, range_with_len}
use Rattle.std.proofs.lemmas.Grind.{flat_map-append}
use Rattle.std.proofs.lemmas.List.{append-nil}
use Rattle.std.proofs.lemmas.List.Elements.{All-append, All-cons, All-nil}
use Rattle.pg_base.specs.Texts.{Bytes}
use Rattle.pg_page.specs.Events.{IsWhole}
use Rattle.pg_page.specs.declared.attribute.Attribute.{Attribute}
use Rattle.pg_page.specs.declared.piece.Piece.{Piece}
use Rattle.pg_page.specs.declared.piece.Piece.TheVariants as pieces
use Rattle.pg_page.specs.declared.tag.LoneTag.{LoneTag}
use Rattle.pg_page.specs.declared.tag.Tag.{Tag}
use Rattle.pg_book_parts.specs.Elements.{element, labelled}
use Rattle.pg_book_parts.specs.Reading.{section_ids, target_in, targets}

-- whole pieces whose sections have these identities, and whose links lead where `ok` says
pub record IsPart (ok : Bytes → Type 0) (ids : List Bytes) (page : List Piece) : Type 0 where
  pub whole : IsWhole page
  pub sections : flat_map section_ids page ≡ ids
  pub leads : All ok (flat_map targets page)

-- ---- single pieces

pub no-part : (ok : Bytes → Type 0) → IsPart ok [] []
no-part ok = record { whole = IsWhole.nothing; sections = refl; leads = All-nil ok }

pub words-part : (ok : Bytes → Type 0) (words : Bytes) → IsPart ok [] (pieces.Words words ∷ [])
words-part ok words =
    record { whole = IsWhole.said words; sections = refl; leads = All-nil ok }

pub style-part : (ok : Bytes → Type 0) (rules : Bytes) → IsPart ok [] (pieces.Style rules ∷ [])
style-part ok rules =
    record { whole = IsWhole.styled rules; sections = refl; leads = All-nil ok }

-- a tag with nothing in it, and without a link
pub lone-part : (ok : Bytes → Type 0) (tag : LoneTag) (attributes : List Attribute)
    → flat_map target_in attributes ≡ []
    → IsPart ok [] (pieces.Lone tag attributes ∷ [])
lone-part ok tag attributes none = record {
  whole = IsWhole.alone tag attributes;
  sections = refl;
  leads = subst (All ok) (sym (append-nil (flat_map target_in attributes) ∙ none)) (All-nil ok);
}

-- ---- pieces after others

pub both-parts : (ok : Bytes → Type 0) (ids more : List Bytes) (page after : List Piece)
    → IsPart ok ids page
    → IsPart ok more after
    → IsPart ok (ids ++ more) (page ++ after)
both-parts ok ids more page after p q = record {
  whole = IsWhole.both page after p.whole q.whole;
  sections = flat_map-append section_ids page after
      ∙ ap (λ found. found ++ flat_map section_ids after) p.sections
      ∙ ap (λ found. ids ++ found) q.sections;
  leads = subst (All ok) (sym (flat_map-append targets page after))
      (All-append ok (flat_map targets page) (flat_map targets after) p.leads q.leads);
}

-- pieces of which the first are no sections
pub then-part : (ok : Bytes → Type 0) (ids : List Bytes) (page after : List Piece)
    → IsPart ok [] page
    → IsPart ok ids after
    → IsPart ok ids (page ++ after)
then-part ok ids page after p q = both-parts ok [] ids page after p q

-- words before pieces
pub said-part : (ok : Bytes → Type 0) (ids : List Bytes) (words : Bytes) (after : List Piece)
    → IsPart ok ids after
    → IsPart ok ids (pieces.Words words ∷ after)
said-part ok ids words after p =
    then-part ok ids (pieces.Words words ∷ []) after (words-part ok words) p

-- those of each member of a list
pub each-part : {A : Type 0} (ok : Bytes → Type 0) (f : A → List Piece)
    → ((a : A) → IsPart ok [] (f a))
    → (members : List A)
    → IsPart ok [] (flat_map f members)
each-part ok f h [] = no-part ok
each-part ok f h (a ∷ rest) =
    then-part ok [] (f a) (flat_map f rest) (h a) (each-part ok f h rest)

-- those of each number of a range
pub range-part : (ok : Bytes → Type 0) (f : ℕ → List Piece) (ids : ℕ → List Bytes) (a n : ℕ)
    → ((i : ℕ) → a ≤ i → i < a + n → IsPart ok (ids i) (f i))
    → IsPart ok (flat_map ids (range_with_len a n)) (flat_map f (range_with_len a n))
range-part ok f ids a zero h = no-part ok
range-part ok f ids a (suc n) h =
    both-parts ok (ids a) (flat_map ids (range_with_len (a + 1) n)) (f a)
    (flat_map f (range_with_len (a + 1) n)) (h a (omega arith) (omega arith))
    (range-part ok f ids (a + 1) n (λ i low high. h i (omega arith) (omega arith)))

-- ---- elements

inside-ids : (tag : Tag) (inside : List Piece)
    → flat_map section_ids (inside ++ pieces.Close tag ∷ []) ≡ flat_map section_ids inside
inside-ids tag inside = flat_map-append section_ids inside (pieces.Close tag ∷ [])
    ∙ append-nil (flat_map section_ids inside)

inside-targets : (tag : Tag) (inside : List Piece)
    → flat_map targets (inside ++ pieces.Close tag ∷ []) ≡ flat_map targets inside
inside-targets tag inside = flat_map-append targets inside (pieces.Close tag ∷ [])
    ∙ append-nil (flat_map targets inside)

-- an element whose tag has these identities and links
pub element-part : (ok : Bytes → Type 0) (tag : Tag) (attributes : List Attribute)
    (own ids : List Bytes) (inside : List Piece)
    → section_ids (pieces.Open tag attributes) ≡ own
    → All ok (flat_map target_in attributes)
    → IsPart ok ids inside
    → IsPart ok (own ++ ids) (element tag attributes inside)
element-part ok tag attributes own ids inside same lead p = record {
  whole = IsWhole.filled tag attributes inside p.whole;
  sections = ap (λ found. found ++ flat_map section_ids (inside ++ pieces.Close tag ∷ [])) same
      ∙ ap (λ found. own ++ found) (inside-ids tag inside ∙ p.sections);
  leads = All-append ok (flat_map target_in attributes)
      (flat_map targets (inside ++ pieces.Close tag ∷ [])) lead
      (subst (All ok) (sym (inside-targets tag inside)) p.leads);
}

-- an element that is no section, without a link of its own
pub plain-part : (ok : Bytes → Type 0) (tag : Tag) (attributes : List Attribute)
    (ids : List Bytes) (inside : List Piece)
    → section_ids (pieces.Open tag attributes) ≡ []
    → flat_map target_in attributes ≡ []
    → IsPart ok ids inside
    → IsPart ok ids (element tag attributes inside)
plain-part ok tag attributes ids inside same none p =
    element-part ok tag attributes [] ids inside same (subst (All ok) (sym none) (All-nil ok)) p

-- such an element with words alone in it
pub label-part : (ok : Bytes → Type 0) (tag : Tag) (attributes : List Attribute) (words : Bytes)
    → section_ids (pieces.Open tag attributes) ≡ []
    → flat_map target_in attributes ≡ []
    → IsPart ok [] (labelled tag attributes words)
label-part ok tag attributes words same none =
    plain-part ok tag attributes [] (pieces.Words words ∷ []) same none (words-part ok words)

-- a link
pub leads-one : (ok : Bytes → Type 0) (target : Bytes) → ok target → All ok (target ∷ [])
leads-one ok target h = All-cons ok target [] h (All-nil ok)
