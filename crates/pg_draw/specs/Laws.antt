-- What the laws say of pictures.
use Rattle.std.specs.Prelude.{◌≡◌, ◌≢◌, ℕ, ◌+◌, ◌<◌, ◌≤◌, true, List, [], ◌∷◌, ◌++◌, get_or, length}
use Rattle.std.specs.List.{flat_map}
use Rattle.pg_picture.specs.declared.paint.Paint.TheVariants as paints
use Rattle.pg_draw.specs.Prelude.{Picture, Place, Shape, Words, Board, Grid, Ring, Laid, Graph}
use Rattle.pg_draw.specs.Prelude.{Table}
use Rattle.pg_draw.specs.Prelude.{Item, Look, Scene, at, lane_of, overlap, place_of_end}
use Rattle.pg_draw.specs.Prelude.{HALF, MARGIN, TOP}
use Rattle.pg_draw.specs.Pictures.{far_corner, legend_shapes, picture_of}
use Rattle.pg_draw.specs.Shapes.{courses_of, item_shapes, place_in, plan_of, vertices_shapes}
use Rattle.pg_draw.specs.declared.measures.TheConstants.{HEADING_DOWN}

-- the shapes of items on a scene's board
abbrev pub shapes_on : Look → Scene → List Item → List Shape
shapes_on look scene items =
    flat_map (item_shapes look.numbers scene.board (courses_of scene.board)) items

-- what stands behind all items
abbrev pub last_shapes : Look → Scene → List Shape
last_shapes look scene = vertices_shapes look.numbers scene.board
    ++ legend_shapes (far_corner scene.board (courses_of scene.board)).down scene.legend

-- the item's shapes stand between those of the items before and after it, which stand between the
-- heading and the rest
abbrev pub IsDrawnBetween : Look → Scene → List Item → Item → List Item → Type 0
IsDrawnBetween look scene before item after = (picture_of look scene).shapes
    ≡ Words (at MARGIN HEADING_DOWN) scene.title paints.Heading
    ∷ shapes_on look scene before
    ++ (item_shapes look.numbers scene.board (courses_of scene.board) item
    ++ (shapes_on look scene after ++ last_shapes look scene))

-- a place is so far from the corner that half a cell is left in both directions
abbrev pub IsUpTo : Place → Place → Type 0
IsUpTo corner place = (place.across + HALF ≤ corner.across) × (place.down + HALF ≤ corner.down)

-- a place lies in a picture, with half a cell to its right and below it
abbrev pub IsInside : Picture → Place → Type 0
IsInside picture place = IsUpTo (at picture.width picture.height) place

-- where a vertex lies
abbrev pub vertex_place : Board → ℕ → Place
vertex_place (Grid width height) vertex = at MARGIN TOP
vertex_place (Ring points) vertex = at MARGIN TOP
vertex_place (Laid chart) vertex = at MARGIN TOP
vertex_place (Graph vertices ends terminals bridge) vertex =
    place_of_end (plan_of vertices bridge) vertex vertex
vertex_place (Table rows target) vertex = at MARGIN TOP

-- lines with two points in common are apart: in their lanes each point has two places
abbrev pub AreDrawnApart : Board → List (List ℕ) → Type 0
AreDrawnApart board lines = (i j v : ℕ)
    → i < j
    → j < length lines
    → overlap (get_or lines j []) (get_or lines i []) ≡ true
    → place_in board (courses_of board) (lane_of lines i) v
    ≢ place_in board (courses_of board) (lane_of lines j) v
