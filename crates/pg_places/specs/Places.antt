-- Where points and vertices lie in a picture.
use Rattle.std.specs.Prelude.{ℕ, ◌+◌, ◌*◌, ◌-◌, ◌/◌, ◌%◌, ◌<◌, ◌≤◌, ◌⊎◌, ◌==◌, max, nat_le}
use Rattle.std.specs.Prelude.{if◌then◌else◌, Option, Some, None, IfSome, slice_get}
use Rattle.std.specs.Prelude.{slice_index}
use Rattle.pg_places.specs.Prelude.{Chart, MAX_VERTICES, Place, MAX_BRIDGE_ROWS, Spot, spots_of}
use Rattle.pg_places.specs.declared.measures.TheConstants.{APART, CELL, COLUMN, HALF, LINE, MARGIN}
use Rattle.pg_places.specs.declared.measures.TheConstants.{MAX_ON_RING}
use Rattle.pg_places.specs.declared.measures.TheConstants.{MIN_RADIUS, QUARTER, ROW}
use Rattle.pg_places.specs.declared.measures.TheConstants.{SINE_OF_QUARTER, SPREAD, TOP}
use Rattle.pg_places.specs.declared.measures.TheConstants.{TURN}
use Rattle.pg_places.specs.declared.vertices.Plan.{Plan}
use Rattle.pg_places.specs.declared.sines.TheConstants.{SINES}

-- the place so far from the left and from the top
abbrev pub at : ℕ → ℕ → Place
at across down = record { across = across; down = down }

-- neither number reaches the limit
abbrev pub IsWithin : ℕ → Place → Type 0
IsWithin limit place = (place.across < limit) × (place.down < limit)

-- two places are so far apart, across or down
abbrev pub AreApart : ℕ → Place → Place → Type 0
AreApart far a b = ((a.across + far ≤ b.across) ⊎ (b.across + far ≤ a.across))
    ⊎ ((a.down + far ≤ b.down) ⊎ (b.down + far ≤ a.down))

-- the place so far up and to the left of another
abbrev pub upper_left : Place → ℕ → ℕ → Place
upper_left place left up = at (place.across - left) (place.down - up)

-- the place so far up and to the right of another
abbrev pub upper_right : Place → ℕ → ℕ → Place
upper_right place right up = at (place.across + right) (place.down - up)

-- the place so far down and to the right of another
abbrev pub lower_right : Place → ℕ → ℕ → Place
lower_right place right down = at (place.across + right) (place.down + down)

-- the place so far down from another
abbrev pub lower : Place → ℕ → Place
lower place down = at place.across (place.down + down)

-- the middle of the cell of a point on a board of squares so wide: row after row, from the left
unfoldable pub place_on_grid : ℕ → ℕ → Place
place_on_grid width point =
    at (MARGIN + HALF + CELL * (point % max width 1)) (TOP + HALF + CELL * (point / max width 1))

-- ---- layouts

-- the place of a spot
unfoldable pub place_of_spot : Spot → Place
place_of_spot s = at (MARGIN + HALF + COLUMN * s.column) (TOP + HALF + LINE * s.line)

-- that of a point, and the corner of the board for what is none
abbrev pub spot_or_corner : Option Spot → Place
spot_or_corner (Some s) = place_of_spot s
spot_or_corner None = at MARGIN TOP

-- the place of a point of a layout
abbrev pub place_on_chart : Chart → ℕ → Place
place_on_chart chart point = spot_or_corner (slice_get (spots_of chart) point)

-- two places are a cell apart, across or down
abbrev pub IsCellApart : Place → Place → Type 0
IsCellApart a b = AreApart CELL a b

-- ---- circles

-- the sine of so many steps, times the radius
abbrev pub part_of : ℕ → ℕ → ℕ
part_of radius part = radius * slice_index SINES part / SINE_OF_QUARTER

-- the place on a circle of that radius after so many steps, from the top and clockwise
abbrev pub place_after : ℕ → ℕ → Place
place_after radius step =
    let sine = part_of radius (step % QUARTER) in
    let cosine = part_of radius (QUARTER - step % QUARTER) in
    let across = MARGIN + HALF + radius in
    let down = TOP + HALF + radius in
    if step / QUARTER == 0 then at (across + sine) (down - cosine)
    else if step / QUARTER == 1 then at (across + cosine) (down + sine)
    else if step / QUARTER == 2 then at (across - sine) (down + cosine)
    else at (across - cosine) (down - sine)

-- the radius of a circle on which so many lie
abbrev pub radius_of : ℕ → ℕ
radius_of count = max (SPREAD * count) MIN_RADIUS

-- the place of one of so many on a circle
unfoldable pub place_on_circle : ℕ → ℕ → Place
place_on_circle count index = place_after (radius_of count) (index * TURN / max count 1)

-- the place of one of so many points that have no place of their own: on a circle, and in rows
-- where there are more
abbrev pub place_on_ring : ℕ → ℕ → Place
place_on_ring points point =
    if nat_le points MAX_ON_RING then place_on_circle points point else place_on_grid ROW point

-- ---- boards of Bridg-It

-- the columns of inner vertices
abbrev pub columns_of : ℕ → ℕ
columns_of rows = max (rows - 1) 1

-- the column of a vertex: terminal 0 is left of the inner vertices, which are numbered from 2 row
-- after row, and terminal 1 right of them
abbrev pub column_of : ℕ → ℕ → ℕ
column_of rows vertex = if vertex == 0
    then 0
    else if vertex == 1
    then columns_of rows + 1
    else (vertex - 2) % columns_of rows + 1

-- the row in which an edge leaves a vertex: a terminal is left in the row of the edge's other end,
-- and below all rows for the other terminal
abbrev pub row_of : ℕ → ℕ → ℕ → ℕ
row_of rows vertex other = if nat_le 2 vertex
    then (vertex - 2) / columns_of rows
    else if nat_le 2 other
    then (other - 2) / columns_of rows
    else rows

-- the place at which an edge leaves a vertex
unfoldable pub place_on_bridge : ℕ → ℕ → ℕ → Place
place_on_bridge rows vertex other = at (MARGIN + HALF + APART * column_of rows vertex)
    (TOP + HALF + APART * row_of rows vertex other)

-- where a vertex lies from which an edge leads to the other: on a circle of so many vertices, or on
-- the board of Bridg-It of so many rows
abbrev pub place_by : ℕ → Option ℕ → ℕ → ℕ → Place
place_by vertices None vertex other = place_on_circle vertices vertex
place_by vertices (Some rows) vertex other = place_on_bridge rows vertex other

-- what the places of vertices rest on is within the limits
pub record IsPlan (plan : Plan) : Type 0 where
  pub few_vertices : plan.vertices ≤ MAX_VERTICES
  pub few_rows : IfSome plan.bridge (λ rows. rows ≤ MAX_BRIDGE_ROWS)

-- where a vertex lies from which an edge leads to the other
abbrev pub place_of_end : Plan → ℕ → ℕ → Place
place_of_end plan vertex other = place_by plan.vertices plan.bridge vertex other
