-- Pages that close their tags in order, and do nothing.
use Rattle.std.proofs.Common.{◌≡◌, ℕ, Bool, true, false, List, [], ◌∷◌, ◌++◌, codes, map}
use Rattle.std.proofs.Common.{Option, Some, None, option_and_then, refl, ◌∙◌, ap}
use Rattle.std.proofs.lemmas.Bool.{and_parts}
use Rattle.std.proofs.lemmas.List.{append-nil}
use Rattle.std.proofs.lemmas.List.Concat.{flat_map-append}
use Rattle.std.specs.List.{list_all, list_any}
use Rattle.std.specs.Str.{bytes_eq}
use Rattle.pg_base.specs.Texts.{Bytes}
use Rattle.pg_page.specs.Events.{IsWhole, active_tags, attribute_seen, events_of, is_inert}
use Rattle.pg_page.specs.Events.{is_inert_attribute, open_after, open_behind, piece_events}
use Rattle.pg_page.specs.Html.{attribute_name, lead, lone_name, seen, seen_rule, tag_name}
use Rattle.pg_page.specs.Reader.{Event}
use Rattle.pg_page.specs.Reader.Event.{Closed, Sign}
use Rattle.pg_page.specs.declared.attribute.Attribute.{Attribute}
use Rattle.pg_page.specs.declared.attribute.Name.{Name}
use Rattle.pg_page.specs.declared.attribute.Name.TheVariants as names
use Rattle.pg_page.specs.declared.piece.Piece.{Piece}
use Rattle.pg_page.specs.declared.piece.Piece.TheVariants.{Close, Lone, Open, Style, Words}
use Rattle.pg_page.specs.declared.tag.LoneTag.{LoneTag}
use Rattle.pg_page.specs.declared.tag.LoneTag.TheVariants as lone
use Rattle.pg_page.specs.declared.tag.Tag.{Tag}
use Rattle.pg_page.specs.declared.tag.Tag.TheVariants as tags

-- ---- names

tag-same : (tag : Tag) → bytes_eq (tag_name tag) (tag_name tag) ≡ true
tag-same tags.A = refl
tag-same tags.Body = refl
tag-same tags.Button = refl
tag-same tags.Details = refl
tag-same tags.Footer = refl
tag-same tags.Form = refl
tag-same tags.ForeignObject = refl
tag-same tags.G = refl
tag-same tags.H1 = refl
tag-same tags.H2 = refl
tag-same tags.Head = refl
tag-same tags.Header = refl
tag-same tags.Html = refl
tag-same tags.Li = refl
tag-same tags.Main = refl
tag-same tags.Ol = refl
tag-same tags.P = refl
tag-same tags.Section = refl
tag-same tags.Strong = refl
tag-same tags.Summary = refl
tag-same tags.Svg = refl
tag-same tags.Table = refl
tag-same tags.Td = refl
tag-same tags.Text = refl
tag-same tags.Th = refl
tag-same tags.Title = refl
tag-same tags.Tr = refl
tag-same tags.Ul = refl

lone-same : (tag : LoneTag) → bytes_eq (lone_name tag) (lone_name tag) ≡ true
lone-same lone.Circle = refl
lone-same lone.Input = refl
lone-same lone.Line = refl
lone-same lone.Meta = refl
lone-same lone.Rect = refl

tag-inert : (tag : Tag) → list_any (bytes_eq (tag_name tag)) active_tags ≡ false
tag-inert tags.A = refl
tag-inert tags.Body = refl
tag-inert tags.Button = refl
tag-inert tags.Details = refl
tag-inert tags.Footer = refl
tag-inert tags.Form = refl
tag-inert tags.ForeignObject = refl
tag-inert tags.G = refl
tag-inert tags.H1 = refl
tag-inert tags.H2 = refl
tag-inert tags.Head = refl
tag-inert tags.Header = refl
tag-inert tags.Html = refl
tag-inert tags.Li = refl
tag-inert tags.Main = refl
tag-inert tags.Ol = refl
tag-inert tags.P = refl
tag-inert tags.Section = refl
tag-inert tags.Strong = refl
tag-inert tags.Summary = refl
tag-inert tags.Svg = refl
tag-inert tags.Table = refl
tag-inert tags.Td = refl
tag-inert tags.Text = refl
tag-inert tags.Th = refl
tag-inert tags.Title = refl
tag-inert tags.Tr = refl
tag-inert tags.Ul = refl

lone-inert : (tag : LoneTag) → list_any (bytes_eq (lone_name tag)) active_tags ≡ false
lone-inert lone.Circle = refl
lone-inert lone.Input = refl
lone-inert lone.Line = refl
lone-inert lone.Meta = refl
lone-inert lone.Rect = refl

name-inert : (name : Name) (value : Bytes)
    → is_inert_attribute (attribute_name name, lead name ++ value) ≡ true
name-inert names.AriaLabel value = refl
name-inert names.AriaLabelledby value = refl
name-inert names.Charset value = refl
name-inert names.Class value = refl
name-inert names.Content value = refl
name-inert names.Cx value = refl
name-inert names.Cy value = refl
name-inert names.Height value = refl
name-inert names.Href value = refl
name-inert names.Id value = refl
name-inert names.Lang value = refl
name-inert names.Name value = refl
name-inert names.R value = refl
name-inert names.Role value = refl
name-inert names.Tabindex value = refl
name-inert names.Type value = refl
name-inert names.ViewBox value = refl
name-inert names.Width value = refl
name-inert names.X value = refl
name-inert names.X1 value = refl
name-inert names.X2 value = refl
name-inert names.Y value = refl
name-inert names.Y1 value = refl
name-inert names.Y2 value = refl

-- ---- tags that close in order

after-append : (es fs : List Event) (tags : List Bytes)
    → open_after (es ++ fs) tags ≡ option_and_then (open_after fs) (open_after es tags)
after-append [] fs tags = refl
after-append (e ∷ es) fs tags = elim (open_behind e tags) as (λ o.
    option_and_then (open_after (es ++ fs)) o
    ≡ option_and_then (open_after fs) (option_and_then (open_after es) o)) [
      | None ↦ refl
      | Some more ↦ after-append es fs more
    ]

-- events behind others that leave the open tags as they are
after-both : (es fs : List Event) (tags mid : List Bytes) (to : Option (List Bytes))
    → open_after es tags ≡ Some mid
    → open_after fs mid ≡ to
    → open_after (es ++ fs) tags ≡ to
after-both es fs tags mid to p q = after-append es fs tags ∙ ap (option_and_then (open_after fs)) p
    ∙ q

signs-stay : (shown : ℕ → ℕ) (words : Bytes) (tags : List Bytes)
    → open_after (map (λ c. Sign (shown c)) words) tags ≡ Some tags
signs-stay shown [] tags = refl
signs-stay shown (c ∷ cs) tags = signs-stay shown cs tags

whole-stays : {page : List Piece}
    → IsWhole page
    → (tags : List Bytes)
    → open_after (events_of page) tags ≡ Some tags
whole-stays IsWhole.nothing tags = refl
whole-stays (IsWhole.alone tag attributes) tags = rw (lone-same tag) refl
whole-stays (IsWhole.said words) tags =
    after-both (map (λ c. Sign (seen c)) words) [] tags tags (Some tags)
    (signs-stay seen words tags) refl
whole-stays (IsWhole.styled rules) tags =
    let name : Bytes = codes "style" in
    let rest : List Event = Closed name ∷ [] in
    rw (append-nil (map (λ c. Sign (seen_rule c)) rules ++ rest))
    (after-both (map (λ c. Sign (seen_rule c)) rules) rest (name ∷ tags) (name ∷ tags) (Some tags)
    (signs-stay seen_rule rules (name ∷ tags)) refl)
whole-stays (IsWhole.filled tag attributes inside whole) tags =
    rw (flat_map-append piece_events inside (Close tag ∷ []))
    (after-both (events_of inside) (Closed (tag_name tag) ∷ []) (tag_name tag ∷ tags)
    (tag_name tag ∷ tags) (Some tags) (whole-stays whole (tag_name tag ∷ tags))
    (rw (tag-same tag) refl))
whole-stays (IsWhole.both first second one other) tags =
    rw (flat_map-append piece_events first second)
    (after-both (events_of first) (events_of second) tags tags (Some tags) (whole-stays one tags)
    (whole-stays other tags))

pub whole-closes : (page : List Piece) → IsWhole page → open_after (events_of page) [] ≡ Some []
whole-closes page whole = whole-stays whole []

-- ---- pages that do nothing

all-append : {A : Type 0} (test : A → Bool) (xs ys : List A)
    → list_all test xs ≡ true
    → list_all test ys ≡ true
    → list_all test (xs ++ ys) ≡ true
all-append test [] ys p q = q
all-append test (x ∷ xs) ys p q = let parts = and_parts (test x) (list_all test xs) p in
    rw parts.0 (all-append test xs ys parts.1 q)

attributes-inert : (attributes : List Attribute)
    → list_all is_inert_attribute (map attribute_seen attributes) ≡ true
attributes-inert [] = refl
attributes-inert (a ∷ rest) =
    rw (name-inert a.name (map seen a.value)) (attributes-inert rest)

signs-inert : (shown : ℕ → ℕ) (words : Bytes)
    → list_all is_inert (map (λ c. Sign (shown c)) words) ≡ true
signs-inert shown [] = refl
signs-inert shown (c ∷ cs) = signs-inert shown cs

piece-inert : (p : Piece) → list_all is_inert (piece_events p) ≡ true
piece-inert (Open tag attributes) = rw (tag-inert tag, attributes-inert attributes) refl
piece-inert (Lone tag attributes) = rw (lone-inert tag, attributes-inert attributes) refl
piece-inert (Close tag) = refl
piece-inert (Words words) = signs-inert seen words
piece-inert (Style rules) =
    all-append is_inert (map (λ c. Sign (seen_rule c)) rules) (Closed (codes "style") ∷ [])
    (signs-inert seen_rule rules) refl

pub page-inert : (page : List Piece) → list_all is_inert (events_of page) ≡ true
page-inert [] = refl
page-inert (p ∷ ps) =
    all-append is_inert (piece_events p) (events_of ps) (piece-inert p) (page-inert ps)
