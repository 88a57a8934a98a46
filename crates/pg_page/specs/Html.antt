-- The text of a page: HTML in ASCII, in which each tag is closed.
use Rattle.std.specs.Prelude.{ℕ, ◌==◌, ◌&&◌, nat_lt, nat_le, if◌then◌else◌, List, [], ◌∷◌, ◌++◌}
use Rattle.std.specs.Prelude.{codes, decimal}
use Rattle.std.specs.List.{flat_map}
use Rattle.pg_base.specs.Texts.{Bytes}
use Rattle.pg_page.specs.declared.attribute.Attribute.{Attribute}
use Rattle.pg_page.specs.declared.attribute.Name.{Name}
use Rattle.pg_page.specs.declared.attribute.Name.TheVariants as names
use Rattle.pg_page.specs.declared.piece.Piece.{Piece}
use Rattle.pg_page.specs.declared.piece.Piece.TheVariants as pieces
use Rattle.pg_page.specs.declared.printing.TheConstants.{DOCTYPE}
use Rattle.pg_page.specs.declared.tag.LoneTag.{LoneTag}
use Rattle.pg_page.specs.declared.tag.LoneTag.TheVariants as lone
use Rattle.pg_page.specs.declared.tag.Tag.{Tag}
use Rattle.pg_page.specs.declared.tag.Tag.TheVariants as tags

-- ---- words

-- a byte as it is shown: a line feed and the printable signs of ASCII as they are, and a question
-- mark for any other
abbrev pub seen : ℕ → ℕ
seen c = if c == 10 then 10 else if nat_le 32 c && nat_lt c 127 then c else 63

abbrev pub seen_text : ℕ → Bytes
seen_text c = seen c ∷ []

-- a byte as it stands between tags and in values: the signs that tags are made of by their names
abbrev pub escaped_byte : ℕ → Bytes
escaped_byte c = if c == 38
    then codes "&amp;"
    else if c == 60
    then codes "&lt;"
    else if c == 62
    then codes "&gt;"
    else if c == 34
    then codes "&quot;"
    else seen_text c

-- words as they stand between tags and in values
abbrev pub escaped : Bytes → Bytes
escaped words = flat_map escaped_byte words

-- a byte of a style sheet, in which no sign is escaped: those that would end it or be escaped
-- become question marks
abbrev pub seen_rule : ℕ → ℕ
seen_rule c = if c == 38 then 63 else if c == 60 then 63 else seen c

abbrev pub rule_byte : ℕ → Bytes
rule_byte c = seen_rule c ∷ []

-- the rules of a style sheet
abbrev pub ruled : Bytes → Bytes
ruled rules = flat_map rule_byte rules

-- ---- names

-- the name of a tag
abbrev pub tag_name : Tag → Bytes
tag_name tags.A = codes "a"
tag_name tags.Body = codes "body"
tag_name tags.Button = codes "button"
tag_name tags.Details = codes "details"
tag_name tags.Footer = codes "footer"
tag_name tags.Form = codes "form"
tag_name tags.ForeignObject = codes "foreignObject"
tag_name tags.G = codes "g"
tag_name tags.H1 = codes "h1"
tag_name tags.H2 = codes "h2"
tag_name tags.Head = codes "head"
tag_name tags.Header = codes "header"
tag_name tags.Html = codes "html"
tag_name tags.Li = codes "li"
tag_name tags.Main = codes "main"
tag_name tags.Ol = codes "ol"
tag_name tags.P = codes "p"
tag_name tags.Section = codes "section"
tag_name tags.Strong = codes "strong"
tag_name tags.Summary = codes "summary"
tag_name tags.Svg = codes "svg"
tag_name tags.Table = codes "table"
tag_name tags.Td = codes "td"
tag_name tags.Text = codes "text"
tag_name tags.Th = codes "th"
tag_name tags.Title = codes "title"
tag_name tags.Tr = codes "tr"
tag_name tags.Ul = codes "ul"

-- the name of a tag with nothing in it
abbrev pub lone_name : LoneTag → Bytes
lone_name lone.Circle = codes "circle"
lone_name lone.Input = codes "input"
lone_name lone.Line = codes "line"
lone_name lone.Meta = codes "meta"
lone_name lone.Rect = codes "rect"

-- the name of an attribute
abbrev pub attribute_name : Name → Bytes
attribute_name names.AriaLabel = codes "aria-label"
attribute_name names.AriaLabelledby = codes "aria-labelledby"
attribute_name names.Charset = codes "charset"
attribute_name names.Class = codes "class"
attribute_name names.Content = codes "content"
attribute_name names.Cx = codes "cx"
attribute_name names.Cy = codes "cy"
attribute_name names.Height = codes "height"
attribute_name names.Href = codes "href"
attribute_name names.Id = codes "id"
attribute_name names.Lang = codes "lang"
attribute_name names.Name = codes "name"
attribute_name names.R = codes "r"
attribute_name names.Role = codes "role"
attribute_name names.Tabindex = codes "tabindex"
attribute_name names.Type = codes "type"
attribute_name names.ViewBox = codes "viewBox"
attribute_name names.Width = codes "width"
attribute_name names.X = codes "x"
attribute_name names.X1 = codes "x1"
attribute_name names.X2 = codes "x2"
attribute_name names.Y = codes "y"
attribute_name names.Y1 = codes "y1"
attribute_name names.Y2 = codes "y2"

-- what stands before a value: a link leads to a part of the page
abbrev pub lead : Name → Bytes
lead names.Href = codes "#"
lead _ = []

-- ---- attributes

-- an attribute with a text
abbrev pub worded : Name → Bytes → Attribute
worded name value = record { name = name; value = value }

-- an attribute with a number
abbrev pub numbered : Name → ℕ → Attribute
numbered name number = worded name (decimal number)

-- an attribute in a tag
unfoldable pub attribute_text : Attribute → Bytes
attribute_text a = codes " " ++ (attribute_name a.name
    ++ (codes "=\"" ++ (lead a.name ++ (escaped a.value ++ codes "\""))))

-- ---- pages

-- a piece
abbrev pub piece_text : Piece → Bytes
piece_text (pieces.Open tag attributes) =
    codes "<" ++ (tag_name tag ++ (flat_map attribute_text attributes ++ codes ">"))
piece_text (pieces.Lone tag attributes) =
    codes "<" ++ (lone_name tag ++ (flat_map attribute_text attributes ++ codes "/>"))
piece_text (pieces.Close tag) = codes "</" ++ (tag_name tag ++ codes ">")
piece_text (pieces.Words words) = escaped words
piece_text (pieces.Style rules) = codes "<style>" ++ (ruled rules ++ codes "</style>")

-- a page
abbrev pub page_text : List Piece → Bytes
page_text page = DOCTYPE.now ++ flat_map piece_text page
