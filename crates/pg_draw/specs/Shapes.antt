-- The shapes of what is to be seen.
use Rattle.std.specs.Prelude.{ℕ, ◌+◌, ◌*◌, ◌/◌, ◌%◌, Bool, ◌==◌, nat_lt, nat_eq, if◌then◌else◌}
use Rattle.std.specs.Prelude.{List, []}
use Rattle.std.specs.Prelude.{◌∷◌, ◌++◌, length, Option, Some, None, slice_get, slice_index, codes}
use Rattle.std.specs.Prelude.{decimal, fold, get_or, max, min}
use Rattle.std.specs.List.{count_by, flat_map, list_any, range_with_len}
use Rattle.pg_base.specs.declared.side.Side.{Side}
use Rattle.pg_base.specs.declared.side.Side.TheVariants.{X, Y}
use Rattle.pg_picture.specs.declared.paint.Paint.{Paint}
use Rattle.pg_picture.specs.declared.paint.Paint.TheVariants as paints
use Rattle.pg_draw.specs.Prelude.{Place, Shape, Square, Disc, Stroke, Bow, Words, Board, Grid, Ring}
use Rattle.pg_draw.specs.Prelude.{Laid, place_on_chart}
use Rattle.pg_draw.specs.Prelude.{Graph, Item, course_of, courses_behind, have_same_ends, place_on}
use Rattle.pg_draw.specs.Prelude.{place_of_edge, at, lower, lower_right, place_of_end}
use Rattle.pg_draw.specs.Prelude.{place_on_bridge, place_on_grid, place_on_ring, upper_left}
use Rattle.pg_draw.specs.Prelude.{upper_right, Course}
use Rattle.pg_draw.specs.Prelude.{Straight, Bent, Around, CELL, HALF, MARGIN, Plan, TOP, Table}
use Rattle.pg_scene.specs.declared.item.Item.TheVariants as items
use Rattle.pg_scene.specs.declared.item.Set.{Set}
use Rattle.pg_scene.specs.declared.item.Set.TheVariants as sets
use Rattle.pg_draw.specs.declared.measures.TheConstants.{BADGE_RADIUS, BADGE_RIGHT, BADGE_UP}
use Rattle.pg_draw.specs.declared.measures.TheConstants.{CELL_CHILD_DOWN, CELL_CHILD_RADIUS}
use Rattle.pg_draw.specs.declared.measures.TheConstants.{CELL_MARK_DOWN, CHILD_RADIUS, CORNER_LEFT}
use Rattle.pg_draw.specs.declared.measures.TheConstants.{CORNER_UP, CROSS_BOTTOM, CROSS_LEFT}
use Rattle.pg_draw.specs.declared.measures.TheConstants.{CROSS_RIGHT, CROSS_TOP, DISC_MARK_DOWN}
use Rattle.pg_draw.specs.declared.measures.TheConstants.{DISC_NUMBER_UP, EDGE_CHILD_RADIUS}
use Rattle.pg_draw.specs.declared.measures.TheConstants.{EDGE_NOTE_DOWN, GROUP, GROUP_ACROSS}
use Rattle.pg_draw.specs.declared.measures.TheConstants.{GROUP_DOWN}
use Rattle.pg_draw.specs.declared.measures.TheConstants.{LANES, LANE_ACROSS}
use Rattle.pg_draw.specs.declared.measures.TheConstants.{LANE_DOWN, LINE_DOT_RADIUS, LOOP_RADIUS}
use Rattle.pg_draw.specs.declared.measures.TheConstants.{MEMBER_RADIUS, NOTE_DOWN, PAIR_DOT_RADIUS}
use Rattle.pg_draw.specs.declared.measures.TheConstants.{PLATE_RADIUS, POINT_RADIUS, VERTEX_RADIUS}
use Rattle.pg_draw.specs.declared.measures.TheConstants.{FIRST_DOWN, HALF_ROW, SIGN_LETTER}
use Rattle.pg_draw.specs.declared.measures.TheConstants.{MAX_COUNTED_LETTERS, ROW_HIGH, ROW_MARK}
use Rattle.pg_draw.specs.declared.measures.TheConstants.{ROW_NUMBER, ROW_RADIUS, ROW_SIGNS}
use Rattle.pg_draw.specs.declared.measures.TheConstants.{ROW_WORD, SECOND_DOWN}

-- ---- paints

-- the paint of a point of a side
abbrev pub point_paint : Option Side → Paint
point_paint None = paints.Free
point_paint (Some X) = paints.OfX
point_paint (Some Y) = paints.OfY

-- the paint of an edge of a side
abbrev pub edge_paint : Option Side → Paint
edge_paint None = paints.Edge
edge_paint (Some X) = paints.EdgeOfX
edge_paint (Some Y) = paints.EdgeOfY

-- the paint of the edges of a set
abbrev pub set_paint : Set → Paint
set_paint sets.First = paints.First
set_paint sets.Second = paints.Second

-- the paint of the pair, or of the part, of that number
abbrev pub pair_paint : ℕ → Paint
pair_paint number = paints.Pair (number % 8)

-- the paint of the step of that number, from 1: attacks and forced replies take turns
abbrev pub step_paint : ℕ → Paint
step_paint number = if number % 2 == 1 then paints.Step else paints.Answer

-- ---- places on a board

-- what the places of vertices rest on: their number, and the rows of the Bridg-It board, where it
-- is one
abbrev pub plan_of : ℕ → Option ℕ → Plan
plan_of vertices bridge = record { vertices = vertices; bridge = bridge }

-- how the edges of a board run
abbrev pub courses_of : Board → List Course
courses_of (Grid width height) = []
courses_of (Ring points) = []
courses_of (Laid chart) = []
courses_of (Graph vertices ends terminals bridge) = courses_behind (plan_of vertices bridge) [] ends
courses_of (Table rows target) = []

-- ---- words

-- how far words reach whose letters are so wide; of long words the first ones count
abbrev pub text_width : ℕ → List ℕ → ℕ
text_width letter words = MARGIN + letter * min (length words) MAX_COUNTED_LETTERS

-- how far the widest of these texts reaches
abbrev pub widest : ℕ → List (List ℕ) → ℕ
widest letter texts = fold (λ width words. max width (text_width letter words)) 0 texts

-- a number in digits
abbrev pub number_at : Place → ℕ → Shape
number_at place number = Words place (decimal number) paints.Number

-- a number, if there are to be numbers
abbrev pub number_if : Bool → Place → ℕ → List Shape
number_if numbers place number = if numbers then number_at place number ∷ [] else []

-- words that would lie over something else, on a ground of their own
unfoldable pub note_shapes : Place → List ℕ → Paint → List Shape
note_shapes place words paint =
    Disc place PLATE_RADIUS paints.Plate ∷ Words place words paint ∷ []

-- the number of an edge over it, if there are to be numbers
abbrev pub note_if : Bool → Place → ℕ → List Shape
note_if numbers place number =
    if numbers then note_shapes place (decimal number) paints.Number else []

-- ---- points

-- the number of a cell at its upper border, if there are to be numbers: it ends before the column
-- through the middle, and above the diagonal from the corner
abbrev pub corner_if : Bool → Place → ℕ → List Shape
corner_if numbers place point = if numbers
    then Words (upper_left place CORNER_LEFT CORNER_UP) (decimal point) paints.Corner ∷ []
    else []

-- the letter of the side that has a point
abbrev pub mark_shapes : Place → Option Side → List Shape
mark_shapes place None = []
mark_shapes place (Some X) = Words place (codes "X") paints.Mark ∷ []
mark_shapes place (Some Y) = Words place (codes "Y") paints.Mark ∷ []

-- a point's cell, with its number and mark
unfoldable pub cell_shapes : Bool → Place → ℕ → Option Side → List Shape
cell_shapes numbers place point mark = Square (upper_left place HALF HALF) CELL (point_paint mark)
    ∷ corner_if numbers place point ++ mark_shapes (lower place CELL_MARK_DOWN) mark

-- a point's disc, with its number and mark
unfoldable pub disc_shapes : Bool → Place → ℕ → Option Side → List Shape
disc_shapes numbers place point mark = Disc place POINT_RADIUS (point_paint mark)
    ∷ number_if numbers (upper_left place 0 DISC_NUMBER_UP) point
    ++ mark_shapes (lower place DISC_MARK_DOWN) mark

-- the shape of an edge: a stroke, a bow, or a ring for a loop
abbrev pub course_shape : Course → Paint → Shape
course_shape (Straight from to place) paint = Stroke from to paint
course_shape (Bent from bend to place) paint = Bow from bend to paint
course_shape (Around centre) paint = Disc centre LOOP_RADIUS paint

-- the shape of an edge, where there is one
abbrev pub course_shapes : Option Course → Paint → List Shape
course_shapes None paint = []
course_shapes (Some course) paint = course_shape course paint ∷ []

-- an edge, with its number over it
unfoldable pub edge_shapes : Bool → List Course → ℕ → Paint → List Shape
edge_shapes numbers courses edge paint = course_shapes (slice_get courses edge) paint
    ++ note_if numbers (place_of_edge courses edge) edge

-- ---- tables

-- a place in a row of a table, whose rows are numbered from 0
abbrev pub place_in_row : ℕ → ℕ → Place
place_in_row row across = at across (TOP + HALF_ROW + ROW_HIGH * row)

-- the middle of the mark of a row
abbrev pub place_in_table : ℕ → Place
place_in_table row = place_in_row row (MARGIN + ROW_MARK)

-- how far signs reach
abbrev pub signs_end : List ℕ → ℕ
signs_end signs = ROW_SIGNS + text_width SIGN_LETTER signs

-- how far a table reaches to the right
abbrev pub table_right : List (List ℕ) → List ℕ → ℕ
table_right rows target =
    ROW_SIGNS + max (widest SIGN_LETTER rows) (text_width SIGN_LETTER target) + HALF_ROW

-- the signs of a row
abbrev pub signs_shape : ℕ → List ℕ → Shape
signs_shape row signs = Words (place_in_row row (MARGIN + ROW_SIGNS)) signs paints.Legend

-- the signs of the row of a vector, if there is one of that number
abbrev pub signs_shapes : List (List ℕ) → ℕ → List Shape
signs_shapes rows row =
    if nat_lt row (length rows) then signs_shape row (get_or rows row []) ∷ [] else []

-- the row of a vector: its mark, its number and its signs
unfoldable pub row_shapes : Bool → List (List ℕ) → ℕ → Option Side → List Shape
row_shapes numbers rows row mark = Disc (place_in_table row) ROW_RADIUS (point_paint mark)
    ∷ number_if numbers (place_in_row row (MARGIN + ROW_NUMBER)) row
    ++ (mark_shapes (place_in_table row) mark ++ signs_shapes rows row)

-- how far below the middle of a row the stroke of a set is
abbrev pub set_down : Set → ℕ
set_down sets.First = FIRST_DOWN
set_down sets.Second = SECOND_DOWN

-- a stroke below the signs of a row, which is in a set
unfoldable pub underline : ℕ → List ℕ → Set → Shape
underline row signs set = Stroke (lower (place_in_row row (MARGIN + ROW_SIGNS)) (set_down set))
    (lower (place_in_row row (signs_end signs)) (set_down set)) (set_paint set)

-- the same for the row of a vector, if there is one of that number
abbrev pub underlines : List (List ℕ) → ℕ → Set → List Shape
underlines rows row set =
    if nat_lt row (length rows) then underline row (get_or rows row []) set ∷ [] else []

-- a table so wide of so many rows and the target's: lines around it, and one above the last row
unfoldable pub frame_shapes : ℕ → ℕ → List Shape
frame_shapes right rows = Stroke (at MARGIN TOP) (at right TOP) paints.Line
    ∷ Stroke (at MARGIN (TOP + ROW_HIGH * rows)) (at right (TOP + ROW_HIGH * rows)) paints.Line
    ∷ Stroke (at MARGIN (TOP + ROW_HIGH * (rows + 1))) (at right (TOP + ROW_HIGH * (rows + 1)))
    paints.Line
    ∷ Stroke (at MARGIN TOP) (at MARGIN (TOP + ROW_HIGH * (rows + 1))) paints.Line
    ∷ Stroke (at right TOP) (at right (TOP + ROW_HIGH * (rows + 1))) paints.Line ∷ []

-- the frame of a table, and the row of its target
abbrev pub table_shapes : List (List ℕ) → List ℕ → List Shape
table_shapes rows target = frame_shapes (table_right rows target) (length rows)
    ++ Words (place_in_row (length rows) (MARGIN + ROW_WORD)) (codes "target") paints.Number
    ∷ signs_shape (length rows) target ∷ []

-- ---- points of all boards

-- the place of a point: the middle of its cell or disc, the place of its edge, or its row's mark
abbrev pub place_of : Board → List Course → ℕ → Place
place_of (Grid width height) courses point = place_on_grid width point
place_of (Ring points) courses point = place_on_ring points point
place_of (Laid chart) courses point = place_on_chart chart point
place_of (Graph vertices ends terminals bridge) courses point = place_of_edge courses point
place_of (Table rows target) courses point = place_in_table point

-- a point with its mark: a cell, a disc, an edge or a row
abbrev pub point_shapes : Bool → Board → List Course → ℕ → Option Side → List Shape
point_shapes numbers (Grid width height) courses point mark =
    cell_shapes numbers (place_on_grid width point) point mark
point_shapes numbers (Ring points) courses point mark =
    disc_shapes numbers (place_on_ring points point) point mark
point_shapes numbers (Laid chart) courses point mark =
    disc_shapes numbers (place_on_chart chart point) point mark
point_shapes numbers (Graph vertices ends terminals bridge) courses point mark =
    edge_shapes numbers courses point (edge_paint mark)
point_shapes numbers (Table rows target) courses point mark = row_shapes numbers rows point mark

-- ---- lines and pairs

-- the place of that number beside another: that of number 0 is the other itself, then they are in
-- turn below it to the right and above it to the left, any two a step further than the two before
abbrev pub place_beside : ℕ → ℕ → ℕ → Place → Place
place_beside number across down place = if number % 2 == 1
    then lower_right place ((number / 2 + 1) * across) ((number / 2 + 1) * down)
    else upper_left place (number / 2 * across) (number / 2 * down)

-- the place of a lane beside another, so that lines that lie over one another are told apart: that
-- of its group, of so many lanes, and beside it that of the lane in the group
unfoldable pub lane_place : ℕ → Place → Place
lane_place lane place = place_beside (lane % LANES % GROUP) LANE_ACROSS LANE_DOWN
    (place_beside (lane % LANES / GROUP) GROUP_ACROSS GROUP_DOWN place)

-- the place of a point of a line in that lane
abbrev pub place_in : Board → List Course → ℕ → ℕ → Place
place_in board courses lane point = lane_place lane (place_of board courses point)

-- strokes from a place through those of the points
abbrev pub strokes_behind : (ℕ → Place) → Place → List ℕ → List Shape
strokes_behind place from [] = []
strokes_behind place from (v ∷ vs) =
    Stroke from (place v) paints.Line ∷ strokes_behind place (place v) vs

-- a dot at the first point, and strokes from each to the next
abbrev pub line_shapes : (ℕ → Place) → List ℕ → List Shape
line_shapes place [] = []
line_shapes place (v ∷ vs) =
    Disc (place v) LINE_DOT_RADIUS paints.Line ∷ strokes_behind place (place v) vs

-- a stroke with a dot at both its ends
unfoldable pub pair_shapes : Place → Place → Paint → List Shape
pair_shapes from to paint =
    Stroke from to paint ∷ Disc from PAIR_DOT_RADIUS paint ∷ Disc to PAIR_DOT_RADIUS paint ∷ []

-- a weight below a place
abbrev pub weight_shapes : Place → List ℕ → List Shape
weight_shapes place weight = note_shapes (lower place NOTE_DOWN) weight paints.Weight

-- ---- sets

-- a member of a set: its edge once more, a ring around the point, or a stroke below its row
abbrev pub member_shapes : Bool → Board → List Course → ℕ → Set → List Shape
member_shapes numbers (Grid width height) courses point set =
    Disc (place_on_grid width point) MEMBER_RADIUS (set_paint set) ∷ []
member_shapes numbers (Ring points) courses point set =
    Disc (place_on_ring points point) MEMBER_RADIUS (set_paint set) ∷ []
member_shapes numbers (Laid chart) courses point set =
    Disc (place_on_chart chart point) MEMBER_RADIUS (set_paint set) ∷ []
member_shapes numbers (Graph vertices ends terminals bridge) courses point set =
    edge_shapes numbers courses point (set_paint set)
member_shapes numbers (Table rows target) courses point set = underlines rows point set

-- the further edge between two terminals: bent further than all edges between them, and dashed
unfoldable pub further_edge_shapes : Plan → List (ℕ × ℕ) → ℕ × ℕ → Set → List Shape
further_edge_shapes plan ends terminals set =
    let course = course_of plan (count_by (have_same_ends terminals) ends + 1) terminals in
    course_shape course (set_paint set) ∷ course_shape course paints.Extra
    ∷ note_shapes (place_on course) (codes "e") paints.Number

-- the further edge between the terminals of a graph that has two, or a stroke below the target
abbrev pub extra_shapes : Board → Set → List Shape
extra_shapes (Grid width height) set = []
extra_shapes (Ring points) set = []
extra_shapes (Laid chart) set = []
extra_shapes (Graph vertices ends terminals bridge) set = if length terminals == 2
    then further_edge_shapes (plan_of vertices bridge) ends (
      slice_index terminals 0,
      slice_index terminals 1,
    ) set
    else []
extra_shapes (Table rows target) set = underline (length rows) target set ∷ []

-- ---- what nodes say of points

-- a number in a ring beside a place
unfoldable pub badge_shapes : Place → ℕ → Paint → List Shape
badge_shapes place number paint =
    let centre = upper_right place BADGE_RIGHT BADGE_UP in
    Disc centre BADGE_RADIUS paints.Plate ∷ Disc centre BADGE_RADIUS paint
    ∷ number_at centre number ∷ []

-- the number of a vertex's part
abbrev pub part_shapes : Board → ℕ → ℕ → List Shape
part_shapes (Grid width height) vertex part = []
part_shapes (Ring points) vertex part = []
part_shapes (Laid chart) vertex part = []
part_shapes (Graph vertices ends terminals bridge) vertex part =
    badge_shapes (place_of_end (plan_of vertices bridge) vertex vertex) part (pair_paint part)
part_shapes (Table rows target) vertex part = []

-- a ring around a place, with the node that follows in it
unfoldable pub ring_shapes : Place → ℕ → ℕ → ℕ → Paint → List Shape
ring_shapes place radius down child paint =
    Disc place radius paint ∷ note_shapes (lower place down) (decimal child) paint

-- a ring in a cell, below the cell's number, with the node that follows in it
unfoldable pub cell_ring_shapes : Place → ℕ → Paint → List Shape
cell_ring_shapes place child paint = Disc (lower place CELL_CHILD_DOWN) CELL_CHILD_RADIUS paint
    ∷ note_shapes (lower place NOTE_DOWN) (decimal child) paint

-- a ring around a point: its number, if it is an edge or a cell, stays clear
abbrev pub reached_shapes : Board → List Course → ℕ → ℕ → Paint → List Shape
reached_shapes (Grid width height) courses point child paint =
    cell_ring_shapes (place_on_grid width point) child paint
reached_shapes (Ring points) courses point child paint =
    ring_shapes (place_on_ring points point) CHILD_RADIUS NOTE_DOWN child paint
reached_shapes (Laid chart) courses point child paint =
    ring_shapes (place_on_chart chart point) CHILD_RADIUS NOTE_DOWN child paint
reached_shapes (Graph vertices ends terminals bridge) courses point child paint =
    ring_shapes (place_of_edge courses point) EDGE_CHILD_RADIUS EDGE_NOTE_DOWN child paint
reached_shapes (Table rows target) courses point child paint =
    ring_shapes (place_in_table point) CHILD_RADIUS NOTE_DOWN child paint

-- a cross beside the heading
unfoldable pub fault_shapes : List Shape
fault_shapes = Stroke (at CROSS_LEFT CROSS_TOP) (at CROSS_RIGHT CROSS_BOTTOM) paints.Fault
    ∷ Stroke (at CROSS_RIGHT CROSS_TOP) (at CROSS_LEFT CROSS_BOTTOM) paints.Fault ∷ []

-- ---- items

-- the shapes of an item
abbrev pub item_shapes : Bool → Board → List Course → Item → List Shape
item_shapes numbers board courses (items.Point v mark) = point_shapes numbers board courses v mark
item_shapes numbers board courses (items.Line vs lane) =
    line_shapes (place_in board courses lane) vs
item_shapes numbers board courses (items.Pair v w number) =
    pair_shapes (place_of board courses v) (place_of board courses w) (pair_paint number)
item_shapes numbers board courses (items.Weight v weight) =
    weight_shapes (place_of board courses v) weight
item_shapes numbers board courses (items.Member v set) = member_shapes numbers board courses v set
item_shapes numbers board courses (items.Extra set) = extra_shapes board set
item_shapes numbers board courses (items.Step v number) =
    badge_shapes (place_of board courses v) number (step_paint number)
item_shapes numbers board courses (items.Move v child) =
    reached_shapes board courses v child paints.Move
item_shapes numbers board courses (items.Reply v child) =
    reached_shapes board courses v child paints.Reply
item_shapes numbers board courses (items.Part u part) = part_shapes board u part
item_shapes numbers board courses items.Fault = fault_shapes

-- ---- vertices

-- a terminal of a Bridg-It board is a bar from the first row on
abbrev pub bar_shapes : Option ℕ → ℕ → List Shape
bar_shapes None vertex = []
bar_shapes (Some rows) vertex = if nat_lt vertex 2
    then Stroke (place_on_bridge rows vertex 2) (place_on_bridge rows vertex vertex) paints.Terminal
    ∷ []
    else []

-- the paint of a vertex
abbrev pub vertex_paint : List ℕ → ℕ → Paint
vertex_paint terminals vertex =
    if list_any (nat_eq vertex) terminals then paints.Terminal else paints.Vertex

-- a vertex with its number
unfoldable pub vertex_shapes : Bool → Plan → List ℕ → ℕ → List Shape
vertex_shapes numbers plan terminals vertex =
    bar_shapes plan.bridge vertex ++ Disc (place_of_end plan vertex vertex) VERTEX_RADIUS
    (vertex_paint terminals vertex)
    ∷ number_if numbers (place_of_end plan vertex vertex) vertex

-- the vertices of a board, or the frame of a table with the row of its target
abbrev pub vertices_shapes : Bool → Board → List Shape
vertices_shapes numbers (Grid width height) = []
vertices_shapes numbers (Ring points) = []
vertices_shapes numbers (Laid chart) = []
vertices_shapes numbers (Graph vertices ends terminals bridge) =
    flat_map (vertex_shapes numbers (plan_of vertices bridge) terminals) (range_with_len 0 vertices)
vertices_shapes numbers (Table rows target) = table_shapes rows target
