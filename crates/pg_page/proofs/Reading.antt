-- What a reader makes of the parts of a page's text.
use Rattle.std.proofs.Common.{◌≡◌, ℕ, ◌==◌, ◌&&◌, nat_le, nat_lt, true, false}
use Rattle.std.proofs.Common.{if◌then◌else◌, List, [], ◌∷◌, ◌++◌, codes, map, refl, sym, ap, ◌∙◌}
use Rattle.std.proofs.Common.{inl, inr, append_assoc, eqb-true}
use Rattle.std.proofs.lemmas.Bool.{cases_Bool}
use Rattle.std.proofs.lemmas.List.{append-nil}
use Rattle.std.specs.List.{flat_map}
use Rattle.pg_base.specs.Texts.{Bytes}
use Rattle.pg_page.specs.Events.{attribute_seen, events_of, piece_events}
use Rattle.pg_page.specs.Html.{attribute_name, attribute_text, escaped, escaped_byte, lead}
use Rattle.pg_page.specs.Html.{lone_name, page_text, piece_text, rule_byte, ruled, seen, seen_rule}
use Rattle.pg_page.specs.Html.{tag_name}
use Rattle.pg_page.specs.Reader.{Event, IsReadAs, Scan, Where, is_letter, next, put, scan}
use Rattle.pg_page.specs.Reader.Event.{Closed, Opened, Sign}
use Rattle.pg_page.specs.Reader.Scan.{Begun, Behind, Closing, Naming, Opening, Reading}
use Rattle.pg_page.specs.Reader.Where.{Inside, Outside}
use Rattle.pg_page.specs.declared.attribute.Attribute.{Attribute}
use Rattle.pg_page.specs.declared.attribute.Name.{Name}
use Rattle.pg_page.specs.declared.attribute.Name.TheVariants as names
use Rattle.pg_page.specs.declared.piece.Piece.{Piece}
use Rattle.pg_page.specs.declared.piece.Piece.TheVariants.{Close, Lone, Open, Style, Words}
use Rattle.pg_page.specs.declared.printing.TheConstants.{DOCTYPE}
use Rattle.pg_page.specs.declared.tag.LoneTag.{LoneTag}
use Rattle.pg_page.specs.declared.tag.LoneTag.TheVariants as lone
use Rattle.pg_page.specs.declared.tag.Tag.{Tag}
use Rattle.pg_page.specs.declared.tag.Tag.TheVariants as tags

scan-append : (from : Scan) (a b : Bytes) → scan from (a ++ b) ≡ scan (scan from a) b
scan-append from [] b = refl
scan-append from (c ∷ cs) b = scan-append (next from c) cs b

-- a text and one behind it
through : (from mid to : Scan) (a b : Bytes)
    → scan from a ≡ mid
    → scan mid b ≡ to
    → scan from (a ++ b) ≡ to
through from mid to a b p q = scan-append from a b ∙ ap (λ s. scan s b) p ∙ q

-- ---- signs

-- a sign that is read as it is
ordinary : (place : Where) (c : ℕ) (so_far : List Event)
    → (c == 38) ≡ false
    → (c == 60) ≡ false
    → (c == 34) ≡ false
    → next (Reading place so_far) c ≡ put place c so_far
ordinary Outside c so_far p q r = rw (p, q) refl
ordinary (Inside tag found name value) c so_far p q r = rw (p, q, r) refl

seen-read : (place : Where) (c : ℕ) (so_far : List Event)
    → (c == 38) ≡ false
    → (c == 60) ≡ false
    → (c == 34) ≡ false
    → next (Reading place so_far) (seen c) ≡ put place (seen c) so_far
seen-read place c so_far p q r =
    elim (c == 10) as (λ b. next (Reading place so_far) (if b
    then 10
    else if nat_le 32 c && nat_lt c 127 then c else 63)
    ≡ put place (if b then 10 else if nat_le 32 c && nat_lt c 127 then c else 63) so_far) [
      | true ↦ ordinary place 10 so_far refl refl refl
      | false ↦ elim (nat_le 32 c && nat_lt c 127) as (λ b.
          next (Reading place so_far) (if b then c else 63)
          ≡ put place (if b then c else 63) so_far) [
            | true ↦ ordinary place c so_far p q r
            | false ↦ ordinary place 63 so_far refl refl refl
          ]
    ]

byte-read : (place : Where) (c : ℕ) (so_far : List Event)
    → scan (Reading place so_far) (escaped_byte c) ≡ put place (seen c) so_far
byte-read place c so_far = elim (cases_Bool (c == 38)) [
  | inl is ↦ rw (eqb-true c 38 is) refl
  | inr p ↦ elim (cases_Bool (c == 60)) [
    | inl is ↦ rw (eqb-true c 60 is) refl
    | inr q ↦ elim (cases_Bool (c == 62)) [
      | inl is ↦ rw (eqb-true c 62 is) refl
      | inr o ↦ elim (cases_Bool (c == 34)) [
        | inl is ↦ rw (eqb-true c 34 is) refl
        | inr r ↦ rw (p, q, o, r) (seen-read place c so_far p q r)
      ]
    ]
  ]
]

value-read : (tag : Bytes) (found : List (Bytes × Bytes)) (name value : Bytes)
    (so_far : List Event) (words : Bytes)
    → scan (Reading (Inside tag found name value) so_far) (escaped words)
    ≡ Reading (Inside tag found name (value ++ map seen words)) so_far
value-read tag found name value so_far [] =
    ap (λ v. Reading (Inside tag found name v) so_far) (sym (append-nil value))
value-read tag found name value so_far (c ∷ cs) =
    through _ (Reading (Inside tag found name (value ++ seen c ∷ [])) so_far) _ (escaped_byte c)
    (escaped cs) (byte-read (Inside tag found name value) c so_far)
    (value-read tag found name (value ++ seen c ∷ []) so_far cs
    ∙ ap (λ v. Reading (Inside tag found name v) so_far)
    (append_assoc value (seen c ∷ []) (map seen cs)))

-- ---- texts between tags

-- a text in which a reader sees these events
record IsRead (text : Bytes) (events : List Event) : Type 0 where
  reads : (so_far : List Event)
      → scan (Reading Outside so_far) text ≡ Reading Outside (so_far ++ events)

both-read : (a b : Bytes) (es fs : List Event)
    → IsRead a es
    → IsRead b fs
    → IsRead (a ++ b) (es ++ fs)
both-read a b es fs p q = record {
  reads = λ so_far. through _ (Reading Outside (so_far ++ es)) _ a b (p.reads so_far)
      (q.reads (so_far ++ es) ∙ ap (Reading Outside) (append_assoc so_far es fs));
}

empty-read : IsRead [] []
empty-read = record { reads = λ so_far. ap (Reading Outside) (sym (append-nil so_far)) }

said-read : (words : Bytes) → IsRead (escaped words) (map (λ c. Sign (seen c)) words)
said-read [] = empty-read
said-read (c ∷ cs) = both-read (escaped_byte c) (escaped cs) (Sign (seen c) ∷ []) _ (record {
  reads = λ so_far. byte-read Outside c so_far;
}) (said-read cs)

rule-read : (c : ℕ) (so_far : List Event)
    → next (Reading Outside so_far) (seen_rule c) ≡ put Outside (seen_rule c) so_far
rule-read c so_far = elim (cases_Bool (c == 38)) [
  | inl is ↦ rw is refl
  | inr p ↦ elim (cases_Bool (c == 60)) [
    | inl is ↦ rw (p, is) refl
    | inr q ↦ rw (p, q) (elim (cases_Bool (c == 34)) [
      | inl is ↦ rw (eqb-true c 34 is) refl
      | inr r ↦ seen-read Outside c so_far p q r
    ])
  ]
]

ruled-read : (rules : Bytes) → IsRead (ruled rules) (map (λ c. Sign (seen_rule c)) rules)
ruled-read [] = empty-read
ruled-read (c ∷ cs) = both-read (rule_byte c) (ruled cs) (Sign (seen_rule c) ∷ []) _ (record {
  reads = λ so_far. rule-read c so_far;
}) (ruled-read cs)

-- ---- attributes

name-read : (name : Name) (tag : Bytes) (found : List (Bytes × Bytes)) (so_far : List Event)
    → scan (Naming tag found [] so_far) (attribute_name name)
    ≡ Naming tag found (attribute_name name) so_far
name-read names.AriaLabel tag found so_far = refl
name-read names.AriaLabelledby tag found so_far = refl
name-read names.Charset tag found so_far = refl
name-read names.Class tag found so_far = refl
name-read names.Content tag found so_far = refl
name-read names.Cx tag found so_far = refl
name-read names.Cy tag found so_far = refl
name-read names.Height tag found so_far = refl
name-read names.Href tag found so_far = refl
name-read names.Id tag found so_far = refl
name-read names.Lang tag found so_far = refl
name-read names.Name tag found so_far = refl
name-read names.R tag found so_far = refl
name-read names.Role tag found so_far = refl
name-read names.Tabindex tag found so_far = refl
name-read names.Type tag found so_far = refl
name-read names.ViewBox tag found so_far = refl
name-read names.Width tag found so_far = refl
name-read names.X tag found so_far = refl
name-read names.X1 tag found so_far = refl
name-read names.X2 tag found so_far = refl
name-read names.Y tag found so_far = refl
name-read names.Y1 tag found so_far = refl
name-read names.Y2 tag found so_far = refl

lead-read : (name : Name) (tag : Bytes) (found : List (Bytes × Bytes)) (word : Bytes)
    (so_far : List Event)
    → scan (Reading (Inside tag found word []) so_far) (lead name)
    ≡ Reading (Inside tag found word (lead name)) so_far
lead-read names.Href tag found word so_far = refl
lead-read _ tag found word so_far = refl

attribute-read : (a : Attribute) (tag : Bytes) (found : List (Bytes × Bytes))
    (so_far : List Event)
    → scan (Behind tag found so_far) (attribute_text a)
    ≡ Behind tag (found ++ attribute_seen a ∷ []) so_far
unfolding attribute_text
attribute-read a tag found so_far =
    let name = attribute_name a.name in
    through (Naming tag found [] so_far) (Naming tag found name so_far) _ name
    (codes "=\"" ++ (lead a.name ++ (escaped a.value ++ codes "\"")))
    (name-read a.name tag found so_far)
    (through (Reading (Inside tag found name []) so_far)
    (Reading (Inside tag found name (lead a.name)) so_far) _ (lead a.name)
    (escaped a.value ++ codes "\"") (lead-read a.name tag found name so_far)
    (through (Reading (Inside tag found name (lead a.name)) so_far)
    (Reading (Inside tag found name (lead a.name ++ map seen a.value)) so_far) _
    (escaped a.value) (codes "\"") (value-read tag found name (lead a.name) so_far a.value) refl))

attributes-read : (attributes : List Attribute) (tag : Bytes) (found : List (Bytes × Bytes))
    (so_far : List Event)
    → scan (Behind tag found so_far) (flat_map attribute_text attributes)
    ≡ Behind tag (found ++ map attribute_seen attributes) so_far
attributes-read [] tag found so_far = ap (λ f. Behind tag f so_far) (sym (append-nil found))
attributes-read (a ∷ rest) tag found so_far =
    through _ (Behind tag (found ++ attribute_seen a ∷ []) so_far) _ (attribute_text a)
    (flat_map attribute_text rest) (attribute-read a tag found so_far)
    (attributes-read rest tag (found ++ attribute_seen a ∷ []) so_far
    ∙ ap (λ f. Behind tag f so_far)
    (append_assoc found (attribute_seen a ∷ []) (map attribute_seen rest)))

-- ---- tags

-- the name of a tag ends where its attributes begin
name-ends : (attributes : List Attribute) (c : ℕ) (cs name : Bytes) (so_far : List Event)
    → is_letter c ≡ false
    → scan (Opening name so_far) (flat_map attribute_text attributes ++ c ∷ cs)
    ≡ scan (Behind name [] so_far) (flat_map attribute_text attributes ++ c ∷ cs)
unfolding attribute_text
name-ends [] c cs name so_far p = rw p refl
name-ends (a ∷ rest) c cs name so_far p = refl

-- a name that a tag may have
record IsName (name : Bytes) : Type 0 where
  opens : (so_far : List Event) → scan (Begun so_far) name ≡ Opening name so_far
  closes : (so_far : List Event) → scan (Closing [] so_far) name ≡ Closing name so_far

tag-named : (tag : Tag) → IsName (tag_name tag)
tag-named tags.A = record { opens = λ so_far. refl; closes = λ so_far. refl }
tag-named tags.Body = record { opens = λ so_far. refl; closes = λ so_far. refl }
tag-named tags.Button = record { opens = λ so_far. refl; closes = λ so_far. refl }
tag-named tags.Details = record { opens = λ so_far. refl; closes = λ so_far. refl }
tag-named tags.Footer = record { opens = λ so_far. refl; closes = λ so_far. refl }
tag-named tags.Form = record { opens = λ so_far. refl; closes = λ so_far. refl }
tag-named tags.ForeignObject = record { opens = λ so_far. refl; closes = λ so_far. refl }
tag-named tags.G = record { opens = λ so_far. refl; closes = λ so_far. refl }
tag-named tags.H1 = record { opens = λ so_far. refl; closes = λ so_far. refl }
tag-named tags.H2 = record { opens = λ so_far. refl; closes = λ so_far. refl }
tag-named tags.Head = record { opens = λ so_far. refl; closes = λ so_far. refl }
tag-named tags.Header = record { opens = λ so_far. refl; closes = λ so_far. refl }
tag-named tags.Html = record { opens = λ so_far. refl; closes = λ so_far. refl }
tag-named tags.Li = record { opens = λ so_far. refl; closes = λ so_far. refl }
tag-named tags.Main = record { opens = λ so_far. refl; closes = λ so_far. refl }
tag-named tags.Ol = record { opens = λ so_far. refl; closes = λ so_far. refl }
tag-named tags.P = record { opens = λ so_far. refl; closes = λ so_far. refl }
tag-named tags.Section = record { opens = λ so_far. refl; closes = λ so_far. refl }
tag-named tags.Strong = record { opens = λ so_far. refl; closes = λ so_far. refl }
tag-named tags.Summary = record { opens = λ so_far. refl; closes = λ so_far. refl }
tag-named tags.Svg = record { opens = λ so_far. refl; closes = λ so_far. refl }
tag-named tags.Table = record { opens = λ so_far. refl; closes = λ so_far. refl }
tag-named tags.Td = record { opens = λ so_far. refl; closes = λ so_far. refl }
tag-named tags.Text = record { opens = λ so_far. refl; closes = λ so_far. refl }
tag-named tags.Th = record { opens = λ so_far. refl; closes = λ so_far. refl }
tag-named tags.Title = record { opens = λ so_far. refl; closes = λ so_far. refl }
tag-named tags.Tr = record { opens = λ so_far. refl; closes = λ so_far. refl }
tag-named tags.Ul = record { opens = λ so_far. refl; closes = λ so_far. refl }

lone-named : (tag : LoneTag) → IsName (lone_name tag)
lone-named lone.Circle = record { opens = λ so_far. refl; closes = λ so_far. refl }
lone-named lone.Input = record { opens = λ so_far. refl; closes = λ so_far. refl }
lone-named lone.Line = record { opens = λ so_far. refl; closes = λ so_far. refl }
lone-named lone.Meta = record { opens = λ so_far. refl; closes = λ so_far. refl }
lone-named lone.Rect = record { opens = λ so_far. refl; closes = λ so_far. refl }

-- a tag with its attributes, and its end
begun-read : (name : Bytes) (attributes : List Attribute) (c : ℕ) (cs : Bytes) (to : Scan)
    (so_far : List Event)
    → IsName name
    → is_letter c ≡ false
    → scan (Behind name (map attribute_seen attributes) so_far) (c ∷ cs) ≡ to
    → scan (Begun so_far) (name ++ (flat_map attribute_text attributes ++ c ∷ cs)) ≡ to
begun-read name attributes c cs to so_far named p end = through _ (Opening name so_far) _ name
    (flat_map attribute_text attributes ++ c ∷ cs) (named.opens so_far)
    (name-ends attributes c cs name so_far p
    ∙ through _ (Behind name (map attribute_seen attributes) so_far) _
    (flat_map attribute_text attributes) (c ∷ cs) (attributes-read attributes name [] so_far) end)

piece-read : (p : Piece) → IsRead (piece_text p) (piece_events p)
piece-read (Open tag attributes) = record {
  reads = λ so_far. begun-read (tag_name tag) attributes 62 [] _ so_far (tag-named tag) refl refl;
}
piece-read (Lone tag attributes) = record {
  reads = λ so_far. begun-read (lone_name tag) attributes 47 (codes ">") _ so_far
      (lone-named tag) refl refl;
}
piece-read (Close tag) = record {
  reads = λ so_far. through (Closing [] so_far) (Closing (tag_name tag) so_far) _
      (tag_name tag) (codes ">") ((tag-named tag).closes so_far) refl;
}
piece-read (Words words) = said-read words
piece-read (Style rules) =
    both-read (codes "<style>") (ruled rules ++ codes "</style>") (Opened (codes "style") [] ∷ []) _
    (record { reads = λ so_far. refl })
    (both-read (ruled rules) (codes "</style>") _ (Closed (codes "style") ∷ []) (ruled-read rules)
    (record { reads = λ so_far. refl }))

-- ---- pages

pieces-read : (page : List Piece) → IsRead (flat_map piece_text page) (events_of page)
pieces-read [] = empty-read
pieces-read (p ∷ ps) = both-read (piece_text p) (flat_map piece_text ps) (piece_events p)
    (events_of ps) (piece-read p) (pieces-read ps)

pub page-read : (page : List Piece) → IsReadAs (page_text page) (events_of page)
page-read page = through (Reading Outside []) (Reading Outside []) _ DOCTYPE.now
    (flat_map piece_text page) refl ((pieces-read page).reads [])
