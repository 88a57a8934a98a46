-- The picture of a scene.
use Rattle.std.specs.Prelude.{ℕ, ◌+◌, ◌*◌, ◌/◌, max, nat_le, Bool, if◌then◌else◌, List, []}
use Rattle.std.specs.Prelude.{◌∷◌}
use Rattle.std.specs.Prelude.{◌++◌, length, Option, Some, None, fold}
use Rattle.std.specs.List.{flat_map}
use Rattle.pg_picture.specs.declared.paint.Paint.TheVariants as paints
use Rattle.pg_draw.specs.Prelude.{Picture, Place, Shape, Words, Board, Grid, Ring, Laid, Graph}
use Rattle.pg_draw.specs.Prelude.{Table}
use Rattle.pg_draw.specs.Prelude.{Scene, Spot, place_of_spot, spots_of}
use Rattle.pg_draw.specs.Prelude.{farthest, at, columns_of, radius_of, Course, APART, CELL, HALF}
use Rattle.pg_draw.specs.Prelude.{Look, MARGIN, MAX_ON_RING, ROW, TOP, Plan}
use Rattle.pg_draw.specs.Shapes.{courses_of, item_shapes, plan_of, table_right, text_width}
use Rattle.pg_draw.specs.Shapes.{vertices_shapes, widest}
use Rattle.pg_draw.specs.Sheets.{boards_of, columns_for, copy_places, rows_for}
use Rattle.pg_draw.specs.declared.measures.TheConstants.{HEADING_DOWN}
use Rattle.pg_draw.specs.declared.measures.TheConstants.{HEADING_LETTER, LEADING, LEGEND_LETTER}
use Rattle.pg_draw.specs.declared.measures.TheConstants.{ROW_HIGH}

-- ---- how far a board reaches

-- a circle on which so many lie
unfoldable pub circle_reach : ℕ → Place
circle_reach count = at (MARGIN + CELL + 2 * radius_of count) (TOP + CELL + 2 * radius_of count)

-- the board of Bridg-It of so many rows
unfoldable pub bridge_reach : ℕ → Place
bridge_reach rows = at (MARGIN + CELL + APART * (columns_of rows + 1)) (TOP + CELL + APART * rows)

-- so many vertices on a circle, or those of the board of Bridg-It of so many rows
abbrev pub reach_by : ℕ → Option ℕ → Place
reach_by vertices None = circle_reach vertices
reach_by vertices (Some rows) = bridge_reach rows

-- the vertices of a graph
abbrev pub plan_reach : Plan → Place
plan_reach plan = reach_by plan.vertices plan.bridge

-- so many columns and rows of cells
unfoldable pub row_reach : ℕ → ℕ → Place
row_reach width height = at (MARGIN + CELL * width) (TOP + CELL * height)

-- the points of a layout: the farther of both, in either direction
abbrev pub spot_farther : Place → Spot → Place
spot_farther far s = at (max far.across ((place_of_spot s).across + HALF))
    (max far.down ((place_of_spot s).down + HALF))

abbrev pub chart_reach : List Spot → Place
chart_reach spots = fold spot_farther (at (MARGIN + CELL) (TOP + CELL)) spots

-- a row for each vector and one for the target
unfoldable pub table_reach : List (List ℕ) → List ℕ → Place
table_reach rows target = at (table_right rows target) (TOP + CELL + ROW_HIGH * length rows)

-- the cells, discs, vertices or rows of a board
abbrev pub reach_of : Board → Place
reach_of (Grid width height) = row_reach width height
reach_of (Ring points) =
    if nat_le points MAX_ON_RING then circle_reach points else row_reach ROW (points / ROW + 1)
reach_of (Laid chart) = chart_reach (spots_of chart)
reach_of (Graph vertices ends terminals bridge) = plan_reach (plan_of vertices bridge)
reach_of (Table rows target) = table_reach rows target

-- a board with its edges
abbrev pub far_corner : Board → List Course → Place
far_corner board courses = at (max (reach_of board).across ((farthest courses).across + HALF))
    (max (reach_of board).down ((farthest courses).down + HALF))

-- ---- words

-- the lines of a legend below a place
abbrev pub legend_shapes : ℕ → List (List ℕ) → List Shape
legend_shapes down [] = []
legend_shapes down (line ∷ lines) =
    Words (at MARGIN (down + LEADING)) line paints.Legend ∷ legend_shapes (down + LEADING) lines

-- ---- scenes

-- the heading, the shapes of each item in the order of the items, the vertices or the frame of a
-- table, and the legend below that place
abbrev pub shapes_of : Bool → Scene → List Course → ℕ → List Shape
shapes_of numbers scene courses bottom = Words (at MARGIN HEADING_DOWN) scene.title paints.Heading
    ∷ flat_map (item_shapes numbers scene.board courses) scene.items
    ++ (vertices_shapes numbers scene.board ++ legend_shapes bottom scene.legend)

-- how wide a picture is whose board reaches so far: no less than its title and its legend
abbrev pub width_of : Scene → ℕ → ℕ
width_of scene across = MARGIN
    + max (max across (text_width HEADING_LETTER scene.title)) (widest LEGEND_LETTER scene.legend)

-- how high a picture is whose board reaches so far
abbrev pub height_of : Scene → ℕ → ℕ
height_of scene down = down + MARGIN + LEADING * length scene.legend

-- the picture of a scene, or a sheet of several: with numbers or without them, and shown at a size
unfoldable pub picture_of : Look → Scene → Picture
picture_of look scene =
    let courses = courses_of scene.board in
    let corner = far_corner scene.board courses in
    let width = width_of scene corner.across in
    let height = height_of scene corner.down in
    let boards = boards_of look.blank in
    record {
      width = width * columns_for boards;
      height = height * rows_for boards;
      size = look.size;
      title = scene.title;
      shapes = shapes_of look.numbers scene courses corner.down;
      copies = copy_places width height boards;
    }
