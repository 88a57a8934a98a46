-- Sides, points and moves in words.
use Rattle.std.specs.Prelude.{ℕ, ◌+◌, ◌/◌, ◌%◌, Bool, ◌&&◌, ◌==◌, max, if◌then◌else◌, List}
use Rattle.std.specs.Prelude.{[], ◌++◌, codes, decimal, Option, Some, None, slice_get}
use Rattle.pg_base.specs.Texts.{Bytes}
use Rattle.pg_base.specs.declared.kind.Kind.{Kind}
use Rattle.pg_base.specs.declared.side.Side.{Side}
use Rattle.pg_scene.specs.declared.board.Board.{Board}
use Rattle.pg_scene.specs.declared.board.Board.TheVariants.{Graph, Grid, Laid, Ring, Table}
use Rattle.pg_captions.specs.Words.{side_name}
use Rattle.pg_book_parts.specs.declared.layout.Layout.{Layout}

-- whether the point is the cell in the middle: the rows and the columns are odd in number, and as
-- many are before the cell as after it
abbrev pub is_middle : ℕ → ℕ → ℕ → Bool
is_middle width height v = height % 2 == 1 && (width % 2 == 1
    && (v / max width 1 == height / 2 && v % max width 1 == width / 2))

-- what is said before the row if it is the cell in the middle
abbrev pub middle_words : ℕ → ℕ → ℕ → Bytes
middle_words width height v = if is_middle width height v then codes "the middle: " else []

-- a cell by its row and its column, both counted from 1
abbrev pub cell_words : ℕ → ℕ → ℕ → Bytes
cell_words width height v = middle_words width height v
    ++ (codes "row " ++ (decimal (v / max width 1 + 1)
    ++ (codes ", column " ++ decimal (v % max width 1 + 1))))

-- the ends of an edge, if there is one
abbrev pub ends_words : Option (ℕ × ℕ) → Bytes
ends_words None = []
ends_words (Some e) = codes ", between " ++ (decimal e.0 ++ (codes " and " ++ decimal e.1))

-- an edge by its number and its ends
abbrev pub edge_words : List (ℕ × ℕ) → ℕ → Bytes
edge_words ends v = codes "edge " ++ (decimal v ++ ends_words (slice_get ends v))

-- a point of a board
abbrev pub point_words : Board → ℕ → Bytes
point_words (Grid width height) v = cell_words width height v
point_words (Ring points) v = codes "point " ++ decimal v
point_words (Laid chart) v = codes "point " ++ decimal v
point_words (Graph vertices ends terminals bridge) v = edge_words ends v
point_words (Table rows target) v = codes "vector " ++ decimal v

-- a side and what it does
abbrev pub side_words : Kind → Side → Bytes → Bytes
side_words kind side does = side_name kind side ++ does

-- a side, what it does, and a point
abbrev pub act_words : Layout → Side → Bytes → ℕ → Bytes
act_words layout side does v =
    side_name layout.kind side ++ (does ++ point_words layout.board v)
