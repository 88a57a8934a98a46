-- What a reader sees in the pieces of a page.
use Rattle.std.specs.Prelude.{Bool, true, false, ◌&&◌, ◌||◌, not, ◌==◌, if◌then◌else◌, List, []}
use Rattle.std.specs.Prelude.{◌∷◌, ◌++◌, codes, map, Option, Some, None, option_and_then}
use Rattle.std.specs.List.{flat_map, list_all, list_any}
use Rattle.std.specs.Str.{bytes_eq}
use Rattle.pg_base.specs.Texts.{Bytes}
use Rattle.pg_page.specs.Html.{attribute_name, lead, lone_name, seen, seen_rule, tag_name}
use Rattle.pg_page.specs.Reader.{Event}
use Rattle.pg_page.specs.Reader.Event.{Closed, Opened, Sign}
use Rattle.pg_page.specs.declared.attribute.Attribute.{Attribute}
use Rattle.pg_page.specs.declared.piece.Piece.{Piece}
use Rattle.pg_page.specs.declared.piece.Piece.TheVariants.{Close, Lone, Open, Style, Words}
use Rattle.pg_page.specs.declared.tag.LoneTag.{LoneTag}
use Rattle.pg_page.specs.declared.tag.Tag.{Tag}

-- ---- what is seen

-- an attribute: its name, and its value with what leads it
abbrev pub attribute_seen : Attribute → Bytes × Bytes
attribute_seen a = (attribute_name a.name, lead a.name ++ map seen a.value)

-- a piece
abbrev pub piece_events : Piece → List Event
piece_events (Open tag attributes) = Opened (tag_name tag) (map attribute_seen attributes) ∷ []
piece_events (Lone tag attributes) =
    Opened (lone_name tag) (map attribute_seen attributes) ∷ Closed (lone_name tag) ∷ []
piece_events (Close tag) = Closed (tag_name tag) ∷ []
piece_events (Words words) = map (λ c. Sign (seen c)) words
piece_events (Style rules) = Opened (codes "style") []
    ∷ (map (λ c. Sign (seen_rule c)) rules ++ Closed (codes "style") ∷ [])

-- a page
abbrev pub events_of : List Piece → List Event
events_of page = flat_map piece_events page

-- ---- tags that close in order

-- the open tags behind an event, the last opened first: only the last may close
abbrev pub open_behind : Event → List Bytes → Option (List Bytes)
open_behind (Opened name found) tags = Some (name ∷ tags)
open_behind (Closed name) [] = None
open_behind (Closed name) (last ∷ tags) = if bytes_eq name last then Some tags else None
open_behind (Sign c) tags = Some tags

-- the open tags behind events
abbrev pub open_after : List Event → List Bytes → Option (List Bytes)
open_after [] tags = Some tags
open_after (e ∷ es) tags = option_and_then (open_after es) (open_behind e tags)

-- pieces of which each tag that opens is closed behind whole pieces
pub data IsWhole : List Piece → Type 0 where
  nothing : IsWhole []
  alone : (tag : LoneTag) (attributes : List Attribute) → IsWhole (Lone tag attributes ∷ [])
  said : (words : Bytes) → IsWhole (Words words ∷ [])
  styled : (rules : Bytes) → IsWhole (Style rules ∷ [])
  filled : (tag : Tag) (attributes : List Attribute) (inside : List Piece)
      → IsWhole inside
      → IsWhole (Open tag attributes ∷ (inside ++ Close tag ∷ []))
  both : (first second : List Piece) → IsWhole first → IsWhole second → IsWhole (first ++ second)

-- ---- pages that do nothing

-- whether a text begins with these bytes
abbrev pub begins : Bytes → Bytes → Bool
begins [] text = true
begins (c ∷ cs) [] = false
begins (c ∷ cs) (d ∷ ds) = c == d && begins cs ds

-- tags that run something or fetch something
abbrev pub active_tags : List Bytes
active_tags = codes "script" ∷ codes "iframe" ∷ codes "object" ∷ codes "embed" ∷ codes "link"
    ∷ codes "base" ∷ codes "img" ∷ codes "image" ∷ codes "use" ∷ []

-- attributes that fetch something or send something
abbrev pub active_attributes : List Bytes
active_attributes = codes "src" ∷ codes "srcset" ∷ codes "action" ∷ codes "formaction"
    ∷ codes "data" ∷ codes "ping" ∷ codes "style" ∷ []

-- an attribute that does nothing: no handler, and no link but to a part of the page
abbrev pub is_inert_attribute : Bytes × Bytes → Bool
is_inert_attribute a = not (begins (codes "on") a.0) && not
    (list_any (bytes_eq a.0) active_attributes)
    && (not (bytes_eq a.0 (codes "href")) || begins (codes "#") a.1)

-- an event that does nothing
abbrev pub is_inert : Event → Bool
is_inert (Opened name found) =
    not (list_any (bytes_eq name) active_tags) && list_all is_inert_attribute found
is_inert (Closed name) = true
is_inert (Sign c) = true
