-- The line of an image: the line of a move, with the word `image` for `move` and the number of a
-- map for the point.
use Rattle.std.specs.Prelude.{nat_lt, if◌then◌else◌, List, [], ◌∷◌, Option, Some, None, Result, Ok}
use Rattle.std.specs.Prelude.{Err, codes}
use Rattle.pg_image.specs.Prelude.{bytes_eq, BAR, SPACE, and_then, Bytes, Four, parts, four_parts}
use Rattle.pg_image.specs.Prelude.{Body, Move, Node, Shape, turn_of, with_form, formed, Fault}
use Rattle.pg_cert_lines.specs.declared.fault.Fault.TheVariants as faults
use Rattle.pg_cert_lines.specs.declared.form.Form.TheVariants as forms
use Rattle.pg_image.specs.Prelude.{Turn, numbered, MAP_COUNT}
use Rattle.pg_image.specs.declared.node.ImageNode.{ImageNode}
use Rattle.pg_image.specs.declared.node.ImageNode.TheVariants.{Image}

-- a line of four fields whose body begins with the word `image`
pub record ImageLine : Type 0 where
  -- the field of X's points
  pub x : Bytes
  -- the field of Y's points
  pub y : Bytes
  -- the field of the turn
  pub turn : Bytes
  -- the words behind the first of the body
  pub words : List Bytes

-- the line with these fields, by the words of the last
abbrev pub begun_with : Four → List Bytes → Option ImageLine
begun_with f [] = None
begun_with f (name ∷ ws) = if bytes_eq name (codes "image")
    then Some (record { x = f.first; y = f.second; turn = f.third; words = ws })
    else None

abbrev pub with_fields : Option Four → Option ImageLine
with_fields None = None
with_fields (Some f) = begun_with f (parts SPACE f.fourth)

-- the fields and words of a line, where it is the line of an image
unfoldable pub image_line : Bytes → Option ImageLine
image_line line = with_fields (four_parts BAR line)

-- the form of a move, if the turn is a turn and two words stand behind the first
abbrev pub with_turn : ImageLine → Option Turn → Option Shape
with_turn l None = None
with_turn l (Some turn) = with_form l.x l.y turn (Some forms.Move) l.words

abbrev pub move_shape : ImageLine → Option Shape
move_shape l = with_turn l (turn_of l.turn)

-- the image of a node that was read as a move: the number of the point names the map
abbrev pub image_by : Node → Body → Result ImageNode Fault
image_by n (Move m j) = if nat_lt m MAP_COUNT
    then Ok (Image n.x n.y n.turn n.left (numbered m) j)
    else Err faults.Number
image_by n _ = Err faults.Number

-- what the line of an image says: its form comes before its numbers
abbrev pub image_said : ImageLine → Result ImageNode Fault
image_said l = and_then (formed (move_shape l)) (λ n. image_by n n.body)
