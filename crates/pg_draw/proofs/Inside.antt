-- Points and vertices lie in the picture.
use Rattle.std.proofs.Common.{◌≡◌, ℕ, zero, suc, ◌+◌, ◌*◌, ◌-◌, ◌/◌, ◌%◌, ◌<◌, ◌≤◌, List, [], ◌∷◌}
use Rattle.std.proofs.Common.{inl, inr, arith, subst}
use Rattle.std.specs.Prelude.{Option, Some, None, fold, length, max, nat_le, slice_get}
use Rattle.std.specs.Prelude.{◌==◌}
use Rattle.pg_draw.proofs.Common.{div-lt_iff_lt-mul, mul_comm, cases_Bool, nat_tests, mod_below}
use Rattle.pg_draw.proofs.Common.{Place, IsBoard, points_on, vertices_on, Board, Grid, Ring, Laid}
use Rattle.pg_draw.proofs.Common.{Graph, Spot, place_on_chart, spot_or_corner, spots_of}
use Rattle.pg_draw.proofs.Common.{Look, Scene, farther, place_of_edge, at, column_of, columns_of}
use Rattle.pg_draw.proofs.Common.{part_of}
use Rattle.pg_draw.proofs.Common.{place_by, place_on_bridge, place_on_circle, place_on_grid}
use Rattle.pg_draw.proofs.Common.{place_on_ring, radius_of, row_of, CELL, Course, HALF, MARGIN}
use Rattle.pg_draw.proofs.Common.{MAX_ON_RING, ROW, TOP, Table}
use Rattle.pg_draw.specs.Laws.{IsInside, IsUpTo, vertex_place}
use Rattle.pg_draw.specs.Pictures.{bridge_reach, circle_reach, far_corner, height_of, picture_of}
use Rattle.pg_draw.specs.Pictures.{reach_by, reach_of, row_reach, spot_farther, table_reach}
use Rattle.pg_draw.specs.Pictures.{width_of}
use Rattle.pg_draw.specs.Sheets.{boards_of, columns_for, rows_for}
use Rattle.pg_draw.specs.Shapes.{courses_of, place_in_table, place_of}
use Rattle.pg_places.proofs.Circles.{part_fits, place_in}

-- ---- cells

cell_inside : (width height v : ℕ)
    → 0 < width
    → v / width < height
    → IsUpTo (row_reach width height) (place_on_grid width v)
unfolding place_on_grid row_reach
cell_inside width height v some low =
    let whole : max width 1 ≡ width = omega arith in
    let few = mod_below v width some in
    rw whole (omega arith, omega arith)

grid_inside : (width height v : ℕ)
    → v < width * height
    → IsUpTo (row_reach width height) (place_on_grid width v)
grid_inside zero height v lt = absurd (omega arith)
grid_inside (suc width) height v lt =
    let some : 0 < suc width = omega arith in
    cell_inside (suc width) height v some
    ((div-lt_iff_lt-mul {k = suc width} {x = v} {y = height} some).1
    (let same = mul_comm (suc width) height in omega arith))

-- ---- circles

quarter_inside : (r q s c : ℕ)
    → s ≤ r
    → c ≤ r
    → ((place_in r q s c).across ≤ 48 + 2 * r) × ((place_in r q s c).down ≤ 72 + 2 * r)
quarter_inside r q s c sr cr =
    elim (cases_Bool (q == 0)) [
      | inl e ↦ rw e (omega arith, omega arith)
      | inr d ↦ elim (cases_Bool (q == 1)) [
        | inl e ↦ rw (d, e) (omega arith, omega arith)
        | inr c ↦ elim (cases_Bool (q == 2)) [
          | inl e ↦ rw (d, c, e) (omega arith, omega arith)
          | inr b ↦ rw (d, c, b) (omega arith, omega arith)
        ]
      ]
    ]

circle_inside : (count u : ℕ) → IsUpTo (circle_reach count) (place_on_circle count u)
unfolding place_on_circle circle_reach
circle_inside count u =
    let r = radius_of count in
    let step = u * 512 / max count 1 in
    let low = mod_below step 128 (omega arith) in
    let inside =
    quarter_inside r (step / 128) (part_of r (step % 128)) (part_of r (128 - step % 128))
    (part_fits r (step % 128) (omega arith)) (part_fits r (128 - step % 128) (omega arith)) in
    let across = inside.0 in
    let down = inside.1 in
    (omega (arith, across), omega (arith, down))

ring_inside : (points v : ℕ) → v < points → IsUpTo (reach_of (Ring points)) (place_on_ring points v)
ring_inside points v lt =
    elim (cases_Bool (nat_le points MAX_ON_RING)) [
      | inl few ↦ rw few (circle_inside points v)
      | inr many ↦ rw many (cell_inside ROW (points / ROW + 1) v (omega arith) (omega arith))
    ]

-- ---- layouts

-- a point of a layout, where others reach so far
spot_inside : (spots : List Spot) (far : Place) (v : ℕ)
    → MARGIN + CELL ≤ far.across
    → TOP + CELL ≤ far.down
    → ((spot_or_corner (slice_get spots v)).across + HALF
    ≤ (fold spot_farther far spots).across)
    × ((spot_or_corner (slice_get spots v)).down + HALF ≤ (fold spot_farther far spots).down)
    × (far.across ≤ (fold spot_farther far spots).across)
    × (far.down ≤ (fold spot_farther far spots).down)
spot_inside [] far v wide high =
    (omega (arith, wide), omega (arith, high), omega arith, omega arith)
spot_inside (s ∷ spots) far zero wide high =
    let rest = spot_inside spots (spot_farther far s) zero (omega (arith, wide))
    (omega (arith, high)) in
    let across = rest.2 in
    let down = rest.3 in
    (omega (arith, across), omega (arith, down), omega (arith, across), omega (arith, down))
spot_inside (s ∷ spots) far (suc v) wide high =
    let rest = spot_inside spots (spot_farther far s) v (omega (arith, wide))
    (omega (arith, high)) in
    let across = rest.2 in
    let down = rest.3 in
    (rest.0, rest.1, omega (arith, across), omega (arith, down))

-- ---- edges

-- the place of an edge, where others reach so far
edge_inside : (courses : List Course) (far : Place) (v : ℕ)
    → ((place_of_edge courses v).across ≤ max MARGIN (fold farther far courses).across)
    × ((place_of_edge courses v).down ≤ max TOP (fold farther far courses).down)
    × (far.across ≤ (fold farther far courses).across)
    × (far.down ≤ (fold farther far courses).down)
edge_inside [] far v = (omega arith, omega arith, omega arith, omega arith)
edge_inside (course ∷ courses) far zero =
    let rest = edge_inside courses (farther far course) zero in
    let across = rest.2 in
    let down = rest.3 in
    (omega (arith, across), omega (arith, down), omega (arith, across), omega (arith, down))
edge_inside (course ∷ courses) far (suc v) =
    let rest = edge_inside courses (farther far course) v in
    let across = rest.2 in
    let down = rest.3 in
    (rest.0, rest.1, omega (arith, across), omega (arith, down))

-- a graph's vertices reach further than a corner
reach_some : (vertices : ℕ) (bridge : Option ℕ)
    → (MARGIN + HALF ≤ (reach_by vertices bridge).across)
    × (TOP + HALF ≤ (reach_by vertices bridge).down)
unfolding circle_reach bridge_reach
reach_some vertices None = (omega arith, omega arith)
reach_some vertices (Some rows) = (omega arith, omega arith)

-- ---- vertices of Bridg-It boards

column_low : (rows u : ℕ) → column_of rows u ≤ columns_of rows + 1
column_low rows zero = omega arith
column_low rows (suc zero) = omega arith
column_low rows (suc (suc k)) =
    let is : column_of rows (suc (suc k)) ≡ k % columns_of rows + 1 = grind (arith, nat_tests) in
    let low = mod_below k (columns_of rows) (omega arith) in
    omega arith

inner_row : (rows k : ℕ) → k < rows * (rows - 1) → k / columns_of rows < rows
inner_row zero k lt = absurd (omega arith)
inner_row (suc zero) k lt = absurd (omega arith)
inner_row (suc (suc r)) k lt =
    let columns : columns_of (suc (suc r)) ≡ suc r = omega arith in
    let fewer : suc (suc r) - 1 ≡ suc r = omega arith in
    let product : k < suc (suc r) * suc r = subst (λ (n : ℕ). k < suc (suc r) * n) fewer lt in
    rw columns ((div-lt_iff_lt-mul {k = suc r} {x = k} {y = suc (suc r)} (omega arith)).1 product)

row_low : (rows u : ℕ) → u < rows * (rows - 1) + 2 → row_of rows u u ≤ rows
row_low rows zero lt = omega arith
row_low rows (suc zero) lt = omega arith
row_low rows (suc (suc k)) lt =
    let is : row_of rows (suc (suc k)) (suc (suc k)) ≡ k / columns_of rows =
    grind (arith, nat_tests) in
    let low = inner_row rows k (omega arith) in
    omega arith

bridge_inside : (rows u : ℕ)
    → u < rows * (rows - 1) + 2
    → IsUpTo (bridge_reach rows) (place_on_bridge rows u u)
unfolding place_on_bridge bridge_reach
bridge_inside rows u lt =
    let column = column_low rows u in
    let row = row_low rows u lt in
    (omega (arith, column), omega (arith, row))

-- ---- tables

row_inside : (rows : List (List ℕ)) (target : List ℕ) (v : ℕ)
    → v < length rows
    → IsUpTo (table_reach rows target) (place_in_table v)
unfolding table_reach
row_inside rows target v lt = (omega arith, omega (arith, lt))

-- ---- boards

-- what is up to the reach of a board is up to its corner
further : (board : Board) (courses : List Course) (place : Place)
    → IsUpTo (reach_of board) place
    → IsUpTo (far_corner board courses) place
further board courses place up =
    let across = up.0 in
    let down = up.1 in
    (omega (arith, across), omega (arith, down))

point_inside : (board : Board) (courses : List Course) (v : ℕ)
    → v < points_on board
    → IsUpTo (far_corner board courses) (place_of board courses v)
point_inside (Grid width height) courses v lt =
    further (Grid width height) courses (place_on_grid width v) (grid_inside width height v lt)
point_inside (Ring points) courses v lt =
    further (Ring points) courses (place_on_ring points v) (ring_inside points v lt)
point_inside (Laid chart) courses v lt =
    let inside = spot_inside (spots_of chart) (at (MARGIN + CELL) (TOP + CELL)) v (omega arith)
    (omega arith) in
    further (Laid chart) courses (place_on_chart chart v) (inside.0, inside.1)
point_inside (Graph vertices ends terminals bridge) courses v lt =
    let edge = edge_inside courses (at 0 0) v in
    let some = reach_some vertices bridge in
    let across = edge.0 in
    let down = edge.1 in
    let left = some.0 in
    let top = some.1 in
    (omega (arith, across, left), omega (arith, down, top))
point_inside (Table rows target) courses v lt =
    further (Table rows target) courses (place_in_table v) (row_inside rows target v lt)

by_inside : (vertices : ℕ) (ends : List (ℕ × ℕ)) (terminals : List ℕ) (bridge : Option ℕ) (u : ℕ)
    → IsBoard (Graph vertices ends terminals bridge)
    → u < vertices
    → IsUpTo (reach_by vertices bridge) (place_by vertices bridge u u)
by_inside vertices ends terminals None u fits lt = circle_inside vertices u
by_inside vertices ends terminals (Some rows) u fits lt =
    let same = fits.is_bridge.same_vertices in
    bridge_inside rows u (omega (arith, same))

vertex_up : (board : Board) (courses : List Course) (u : ℕ)
    → IsBoard board
    → u < vertices_on board
    → IsUpTo (far_corner board courses) (vertex_place board u)
vertex_up (Grid width height) courses u fits lt = absurd (omega arith)
vertex_up (Ring points) courses u fits lt = absurd (omega arith)
vertex_up (Laid chart) courses u fits lt = absurd (omega arith)
vertex_up (Graph vertices ends terminals bridge) courses u fits lt =
    further (Graph vertices ends terminals bridge) courses (place_by vertices bridge u u)
    (by_inside vertices ends terminals bridge u fits lt)
vertex_up (Table rows target) courses u fits lt = absurd (omega arith)

-- ---- pictures

-- one of several is no larger than all
le_times : (w n : ℕ) → 1 ≤ n → w ≤ w * n
le_times w zero some = absurd (omega arith)
le_times w (suc k) some = omega arith

some_boards : (blank : Option ℕ) → 1 ≤ boards_of blank
some_boards None = omega arith
some_boards (Some count) = omega arith

some_rows : (boards : ℕ) → 1 ≤ boards → 1 ≤ rows_for boards
some_rows boards some = omega (arith, some)

in_picture : (look : Look) (scene : Scene) (place : Place)
    → IsUpTo (far_corner scene.board (courses_of scene.board)) place
    → IsInside (picture_of look scene) place
unfolding picture_of
in_picture look scene place up =
    let across = up.0 in
    let down = up.1 in
    let courses = courses_of scene.board in
    let corner = far_corner scene.board courses in
    let boards = boards_of look.blank in
    let some = some_boards look.blank in
    let wide = le_times (width_of scene corner.across) (columns_for boards) (omega (arith, some)) in
    let high =
    le_times (height_of scene corner.down) (rows_for boards) (some_rows boards some) in
    (omega (arith, across, wide), omega (arith, down, high))

pub point_in_picture : (look : Look) (scene : Scene) (v : ℕ)
    → v < points_on scene.board
    → IsInside (picture_of look scene) (place_of scene.board (courses_of scene.board) v)
point_in_picture look scene v lt =
    in_picture look scene (place_of scene.board (courses_of scene.board) v)
    (point_inside scene.board (courses_of scene.board) v lt)

pub vertex_in_picture : (look : Look) (scene : Scene) (u : ℕ)
    → IsBoard scene.board
    → u < vertices_on scene.board
    → IsInside (picture_of look scene) (vertex_place scene.board u)
vertex_in_picture look scene u fits lt = in_picture look scene (vertex_place scene.board u)
    (vertex_up scene.board (courses_of scene.board) u fits lt)
