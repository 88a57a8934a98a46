-- Bridg-It as it is drawn on paper, each place three characters wide: X's dots are `x`, O's `o`,
-- and a stroke between two dots says that their side has joined them. A free edge is its number.
use Rattle.std.specs.Prelude.{ℕ, ◌+◌, ◌-◌, ◌*◌, ◌++◌, ◌&&◌, nat_le, Bool, true, false, codes}
use Rattle.std.specs.Prelude.{Option, Some, None}
use Rattle.pg_base.specs.Side.{is_same_side}
use Rattle.pg_base.specs.Texts.{Bytes}
use Rattle.pg_base.specs.declared.side.Side.{Side}
use Rattle.pg_base.specs.declared.side.Side.TheVariants.{X, Y}
use Rattle.pg_game.specs.declared.position.Position.{Position}
use Rattle.pg_characters.specs.Marks.{is_last, mark_of, tint, untint}
use Rattle.pg_characters.specs.Names.{padded}
use Rattle.pg_characters.specs.Spots.{spot_at}
use Rattle.pg_characters.specs.declared.shown.Shown.{Shown}
use Rattle.pg_characters.specs.declared.spots.Spot.{Spot}
use Rattle.pg_characters.specs.declared.spots.Spot.TheVariants.{Blank, Dot, Border, Edge}

-- the letter of a dot
abbrev pub dot_letter : Side → Bytes
dot_letter X = codes "x"
dot_letter Y = codes "o"

-- what is beside a dot: a stroke to the next place if the two are joined
abbrev pub dash : Bool → Bytes
dash true = codes "-"
dash false = codes " "

-- the stroke of an edge: across or down, and in brackets if the edge was claimed last
abbrev pub stroke_of : Bool → Bool → Bytes
stroke_of true true = codes "[-]"
stroke_of true false = codes "[|]"
stroke_of false true = codes "---"
stroke_of false false = codes " | "

-- whether the stroke of the side that has an edge leads across, if one has it
abbrev pub leads : Side → Option Side → Bool
leads across None = false
leads across (Some side) = is_same_side side across

-- whether a stroke leads across a place
abbrev pub is_across : Position → Spot → Bool
is_across p Blank = false
is_across p (Dot side) = false
is_across p (Border side) = is_same_side side Y
is_across p (Edge number across) = leads across (mark_of p number)

abbrev pub is_across_at : ℕ → Position → ℕ → ℕ → Bool
is_across_at r p row column = nat_le column (2 * r) && is_across p (spot_at r row column)

-- a dot, with the strokes to the places at its left and at its right
abbrev pub dot_text : Shown → Side → Bool → Bool → Bytes
dot_text s side left right = tint s.look.colour side
    ++ (dash left ++ (dot_letter side ++ (dash right ++ untint s.look.colour)))

-- a stroke of a side
abbrev pub stroke_text : Shown → Side → Bool → Bool → Bytes
stroke_text s side last across =
    tint s.look.colour side ++ (stroke_of last across ++ untint s.look.colour)

-- an edge: its number if it is free, else the stroke of the side that has it
abbrev pub owned_text : Shown → ℕ → Side → Option Side → Bytes
owned_text s number across None = padded number
owned_text s number across (Some side) =
    stroke_text s side (is_last s.last number) (is_same_side side across)

abbrev pub edge_text : Shown → ℕ → Side → Bytes
edge_text s number across = owned_text s number across (mark_of s.position number)

-- what is at a place
abbrev pub text_of_spot : ℕ → Shown → ℕ → ℕ → Spot → Bytes
text_of_spot r s row column Blank = codes "   "
text_of_spot r s row column (Dot side) = dot_text s side
    (is_across_at r s.position row (column - 1)) (is_across_at r s.position row (column + 1))
text_of_spot r s row column (Border side) = stroke_text s side false (is_same_side side Y)
text_of_spot r s row column (Edge number across) = edge_text s number across

abbrev pub spot_text : ℕ → Shown → ℕ → ℕ → Bytes
spot_text r s row column = text_of_spot r s row column (spot_at r row column)
