-- The text of a picture: SVG 1.1, in ASCII.
use Rattle.std.specs.Prelude.{ℕ, ◌*◌, ◌/◌, ◌%◌, ◌==◌, ◌&&◌, nat_lt, nat_le, max, if◌then◌else◌}
use Rattle.std.specs.Prelude.{List, [], ◌∷◌, ◌++◌, Option, Some, None, codes, decimal}
use Rattle.std.specs.List.{flat_map}
use Rattle.pg_base.specs.Texts.{Bytes}
use Rattle.pg_picture.specs.declared.paint.Paint.{Paint}
use Rattle.pg_picture.specs.declared.paint.Paint.TheVariants.{Free, OfX, OfY, Terminal, Vertex}
use Rattle.pg_picture.specs.declared.paint.Paint.TheVariants.{Line, Edge, EdgeOfX, EdgeOfY, Pair}
use Rattle.pg_picture.specs.declared.paint.Paint.TheVariants.{First, Second, Extra, Step, Answer}
use Rattle.pg_picture.specs.declared.paint.Paint.TheVariants.{Move, Reply, Fault, Corner, Number}
use Rattle.pg_picture.specs.declared.paint.Paint.TheVariants.{Plate, Mark, Weight, Legend, Heading}
use Rattle.pg_picture.specs.declared.picture.Picture.{Picture}
use Rattle.pg_picture.specs.declared.shape.Place.{Place}
use Rattle.pg_picture.specs.declared.shape.Shape.{Shape}
use Rattle.pg_picture.specs.declared.shape.Shape.TheVariants.{Square, Disc, Stroke, Bow, Words}
use Rattle.pg_picture.specs.declared.style.TheConstants.{NAME_SPACE, STYLE}

-- ---- words

-- a byte as it stands between tags: the signs that tags are made of by their names, and a question
-- mark for what is no printable sign of ASCII
abbrev pub escaped_byte : ℕ → Bytes
escaped_byte c = if c == 38
    then codes "&amp;"
    else if c == 60
    then codes "&lt;"
    else if c == 62
    then codes "&gt;"
    else if c == 34
    then codes "&quot;"
    else if nat_le 32 c && nat_lt c 127
    then c ∷ []
    else codes "?"

-- words as they stand between tags
abbrev pub escaped : Bytes → Bytes
escaped words = flat_map escaped_byte words

-- ---- tags

-- the name and the value of an attribute
pub record Attribute : Type 0 where
  pub name : Bytes
  pub value : Bytes

-- an attribute in a tag
unfoldable pub attribute_text : Attribute → Bytes
attribute_text a = codes " " ++ (a.name ++ (codes "=\"" ++ (a.value ++ codes "\"")))

-- a tag with its attributes, but for its end
abbrev pub begun : Bytes → List Attribute → Bytes
begun name attributes = codes "<" ++ (name ++ flat_map attribute_text attributes)

-- a tag that is closed at once
abbrev pub lone : Bytes → List Attribute → Bytes
lone name attributes = begun name attributes ++ codes "/>\n"

-- a tag, what stands in it, and the tag that closes it
abbrev pub filled : Bytes → List Attribute → Bytes → Bytes
filled name attributes inside =
    begun name attributes ++ (codes ">" ++ (inside ++ (codes "</" ++ (name ++ codes ">\n"))))

-- ---- shapes

-- the class of the style sheet by which a shape is painted
unfoldable pub class_name : Paint → Bytes
class_name Free = codes "free"
class_name OfX = codes "of-x"
class_name OfY = codes "of-y"
class_name Terminal = codes "terminal"
class_name Vertex = codes "vertex"
class_name Line = codes "line"
class_name Edge = codes "edge"
class_name EdgeOfX = codes "edge-of-x"
class_name EdgeOfY = codes "edge-of-y"
class_name (Pair hue) = codes "pair-" ++ decimal (hue % 8)
class_name First = codes "first"
class_name Second = codes "second"
class_name Extra = codes "extra"
class_name Step = codes "step"
class_name Answer = codes "answer"
class_name Move = codes "move"
class_name Reply = codes "reply"
class_name Fault = codes "fault"
class_name Corner = codes "corner"
class_name Number = codes "number"
class_name Plate = codes "plate"
class_name Mark = codes "mark"
class_name Weight = codes "weight"
class_name Legend = codes "legend"
class_name Heading = codes "heading"

abbrev pub painted : Paint → Attribute
painted paint = record { name = codes "class"; value = class_name paint }

-- an attribute whose value is a number
abbrev pub numbered : Bytes → ℕ → Attribute
numbered name number = record { name = name; value = decimal number }

-- the line of letters is so far below a place that they are centred on it
abbrev pub lowered : Attribute
lowered = record { name = codes "dy"; value = codes ".35em" }

-- a place in a path
abbrev pub place_text : Place → Bytes
place_text place = decimal place.across ++ (codes " " ++ decimal place.down)

-- the path of a bow: a quadratic curve
abbrev pub path_of : Place → Place → Place → Attribute
path_of from bend to = record {
  name = codes "d";
  value = codes "M"
      ++ (place_text from ++ (codes "Q" ++ (place_text bend ++ (codes " " ++ place_text to))));
}

-- a shape: one line
unfoldable pub shape_text : Shape → Bytes
shape_text (Square corner side paint) = lone (codes "rect")
    (painted paint ∷ numbered (codes "x") corner.across ∷ numbered (codes "y") corner.down
    ∷ numbered (codes "width") side ∷ numbered (codes "height") side ∷ [])
shape_text (Disc centre radius paint) = lone (codes "circle")
    (painted paint ∷ numbered (codes "cx") centre.across ∷ numbered (codes "cy") centre.down
    ∷ numbered (codes "r") radius ∷ [])
shape_text (Stroke from to paint) = lone (codes "line")
    (painted paint ∷ numbered (codes "x1") from.across ∷ numbered (codes "y1") from.down
    ∷ numbered (codes "x2") to.across ∷ numbered (codes "y2") to.down ∷ [])
shape_text (Bow from bend to paint) =
    lone (codes "path") (painted paint ∷ path_of from bend to ∷ [])
shape_text (Words at words paint) = filled (codes "text")
    (painted paint ∷ numbered (codes "x") at.across ∷ numbered (codes "y") at.down ∷ lowered ∷ [])
    (escaped words)

-- ---- pictures

-- how many pixels wide a picture is shown, if that is said, and how many high in proportion
abbrev pub size_attributes : ℕ → ℕ → Option ℕ → List Attribute
size_attributes width height None = []
size_attributes width height (Some size) = numbered (codes "width") size
    ∷ numbered (codes "height") (size * height / max width 1) ∷ []

-- the tag that opens a picture, but for its end: the name space of its tags, the part of the plane
-- that is seen, and how large it is shown
unfoldable pub head : ℕ → ℕ → Option ℕ → Bytes
head width height size =
    begun (codes "svg") (record { name = codes "xmlns"; value = NAME_SPACE.now } ∷ record {
      name = codes "viewBox";
      value = codes "0 0 " ++ (decimal width ++ (codes " " ++ decimal height));
    } ∷ size_attributes width height size)

-- how far to the right and down shapes are shifted
abbrev pub shift_of : Place → Attribute
shift_of place = record {
  name = codes "transform";
  value = codes "translate(" ++ (place_text place ++ codes ")");
}

-- a copy of shapes, so far to the right and down
unfoldable pub copy_text : List Shape → Place → Bytes
copy_text shapes place =
    filled (codes "g") (shift_of place ∷ []) (codes "\n" ++ flat_map shape_text shapes)

-- the white ground of all shapes, as wide and as high as the picture
unfoldable pub ground_text : ℕ → ℕ → Bytes
ground_text width height = lone (codes "rect")
    (record { name = codes "class"; value = codes "ground" } ∷ numbered (codes "width") width
    ∷ numbered (codes "height") height ∷ [])

-- what stands in it: the title, the style sheet, the ground, the shapes, and the copies of these
unfoldable pub inside_of : Picture → Bytes
inside_of p = filled (codes "title") [] (escaped p.title)
    ++ (filled (codes "style") [] STYLE.now
    ++ (ground_text p.width p.height
    ++ (flat_map shape_text p.shapes ++ flat_map (copy_text p.shapes) p.copies)))

-- a picture
unfoldable pub picture_text : Picture → Bytes
picture_text p =
    head p.width p.height p.size ++ (codes ">\n" ++ (inside_of p ++ codes "</svg>\n"))
