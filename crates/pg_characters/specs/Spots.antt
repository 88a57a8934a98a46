-- What is at each place of a Bridg-It board on paper. A board of r rows has 2 r + 1 rows and
-- columns of places, with numbers from 0. X's dots are in odd rows and even columns, and O's in
-- even rows and odd columns. At each other place but the outermost an edge lies between two dots of
-- X, and across it the stroke between two dots of O by which O takes it.
use Rattle.std.specs.Prelude.{ℕ, ◌+◌, ◌-◌, ◌*◌, ◌/◌, ◌%◌, ◌==◌, ◌||◌, ◌<◌, ⊤, Bool}
use Rattle.std.specs.Prelude.{if◌then◌else◌, nat_lt, Option, Some, None}
use Rattle.pg_base.specs.declared.side.Side.TheVariants.{X, Y}
use Rattle.pg_characters.specs.declared.spots.Spot.{Spot}
use Rattle.pg_characters.specs.declared.spots.Spot.TheVariants.{Blank, Dot, Border, Edge}

-- how many rows and columns of places a board has
abbrev pub span_of : ℕ → ℕ
span_of r = 2 * r + 1

abbrev pub is_odd : ℕ → Bool
is_odd n = n % 2 == 1

-- whether a row or a column is one of the two outermost
abbrev pub is_outer : ℕ → ℕ → Bool
is_outer r place = place == 0 || place == 2 * r

-- what is in an even row and an even column: X's outermost dots are joined from the start, at the
-- left and at the right, and O's at the top and at the bottom; else an edge leads from a row of X's
-- dots to the next
abbrev pub spot_between : ℕ → ℕ → ℕ → Spot
spot_between r row column = if is_outer r row
    then (if is_outer r column then Blank else Border Y)
    else (if is_outer r column
    then Border X
    else Edge (r * r + ((row / 2 - 1) * (r - 1) + (column / 2 - 1))) Y)

-- what is at a place
abbrev pub spot_at : ℕ → ℕ → ℕ → Spot
spot_at r row column = if is_odd row
    then (if is_odd column then Edge (row / 2 * r + column / 2) X else Dot X)
    else (if is_odd column then Dot Y else spot_between r row column)

-- the edge at a place, if one is there, has a number below n
abbrev pub HasEdgeBelow : ℕ → Spot → Type 0
HasEdgeBelow n Blank = ⊤
HasEdgeBelow n (Dot side) = ⊤
HasEdgeBelow n (Border side) = ⊤
HasEdgeBelow n (Edge number across) = number < n

-- the edge at a place, if one is there
abbrev pub edge_of : Spot → Option ℕ
edge_of Blank = None
edge_of (Dot side) = None
edge_of (Border side) = None
edge_of (Edge number across) = Some number

-- how many edges the board has: those along X's rows, and those between them
abbrev pub edges_on : ℕ → ℕ
edges_on r = r * r + (r - 1) * (r - 1)

-- the place of an edge
abbrev pub edge_row : ℕ → ℕ → ℕ
edge_row r e = if nat_lt e (r * r) then 2 * (e / r) + 1 else 2 * ((e - r * r) / (r - 1)) + 2

abbrev pub edge_column : ℕ → ℕ → ℕ
edge_column r e = if nat_lt e (r * r) then 2 * (e % r) + 1 else 2 * ((e - r * r) % (r - 1)) + 2
