-- How edges run.
use Rattle.std.specs.Prelude.{ℕ, ◌+◌, ◌*◌, ◌/◌, ◌<◌, ◌≢◌, ◌==◌, ◌&&◌, ◌||◌, max, nat_le, nat_lt}
use Rattle.std.specs.Prelude.{Bool, if◌then◌else◌}
use Rattle.std.specs.Prelude.{List, [], ◌∷◌, ◌++◌, Option, Some, None, slice_get, fold}
use Rattle.pg_places.specs.Prelude.{count_by, Place}
use Rattle.std.specs.Int.{abs_diff}
use Rattle.pg_places.specs.declared.course.Course.{Course}
use Rattle.pg_places.specs.declared.course.Course.TheVariants.{Straight, Bent, Around}
use Rattle.pg_places.specs.declared.measures.TheConstants.{BEND, LOOP, MARGIN, MAX_MIDDLE_REACH}
use Rattle.pg_places.specs.declared.measures.TheConstants.{TOP}
use Rattle.pg_places.specs.declared.vertices.Plan.{Plan}
use Rattle.pg_places.specs.Places.{IsWithin, at, place_of_end}

-- the place half way between two
abbrev pub midway : Place → Place → Place
midway a b = at ((a.across + b.across) / 2) ((a.down + b.down) / 2)

-- the middle of an edge; that of a bent one lies half way to its bend
abbrev pub middle_of : Course → Place
middle_of (Straight from to place) = midway from to
middle_of (Bent from bend to place) = midway (midway from to) bend
middle_of (Around centre) = centre

-- where the number and the rings of an edge stand
abbrev pub place_on : Course → Place
place_on (Straight from to place) = place
place_on (Bent from bend to place) = place
place_on (Around centre) = centre

-- both are within the numbers that places may have
abbrev pub IsNear : Course → Type 0
IsNear course =
    IsWithin MAX_MIDDLE_REACH (place_on course) × IsWithin MAX_MIDDLE_REACH (middle_of course)

-- the place two sevenths of the way from one place to another
abbrev pub two_sevenths : Place → Place → Place
two_sevenths a b = at ((5 * a.across + 2 * b.across) / 7) ((5 * a.down + 2 * b.down) / 7)

-- what stands on an edge between vertices on a circle is near the first of its ends: near the one
-- with the smaller number if the other is at most half a turn further, else near the other. So no
-- two edges that cross in their middles have the same place
abbrev pub is_near_first : ℕ → ℕ × ℕ → Bool
is_near_first vertices edge = if nat_le (2 * abs_diff edge.0 edge.1) vertices
    then nat_lt edge.0 edge.1
    else nat_lt edge.1 edge.0

-- part of the way from one place to another, in the direction of an edge: half of the way on the
-- board of Bridg-It, where no edges cross, else two sevenths of it from the end that its number is
-- near
abbrev pub part_by : Option ℕ → ℕ → ℕ × ℕ → Place → Place → Place
part_by (Some rows) vertices edge a b = midway a b
part_by None vertices edge a b =
    if is_near_first vertices edge then two_sevenths a b else two_sevenths b a

abbrev pub part_way : Plan → ℕ × ℕ → Place → Place → Place
part_way plan edge a b = part_by plan.bridge plan.vertices edge a b

-- the place on a bow, a quadratic curve, that is part of the way along it
abbrev pub on_bow : Plan → ℕ × ℕ → Place → Place → Place → Place
on_bow plan edge from bend to =
    part_way plan edge (part_way plan edge from bend) (part_way plan edge bend to)

-- two edges have the same two ends
abbrev pub have_same_ends : ℕ × ℕ → ℕ × ℕ → Bool
have_same_ends a b = (a.0 == b.0 && a.1 == b.1) || (a.0 == b.1 && a.1 == b.0)

-- the place towards which an edge is bent: down from its middle where it leads rather across, else
-- to the right
unfoldable pub bend_of : Place → Place → ℕ → Place
bend_of from to steps =
    let middle = midway from to in
    if nat_le (abs_diff from.down to.down) (abs_diff from.across to.across)
    then at middle.across (middle.down + BEND * steps)
    else at (middle.across + BEND * steps) middle.down

-- the middle of a loop at a place, where so many lie nearer
unfoldable pub beside : Place → ℕ → Place
beside place steps = at (place.across + LOOP * (steps + 1)) place.down

-- how an edge runs, where so many before it have the same ends: the first straight, each further
-- one bent further
unfoldable pub course_of : Plan → ℕ → ℕ × ℕ → Course
course_of plan steps edge =
    let from = place_of_end plan edge.0 edge.1 in
    let to = place_of_end plan edge.1 edge.0 in
    if edge.0 == edge.1 then Around (beside from steps)
    else if steps == 0 then Straight from to (part_way plan edge from to)
    else let bend = bend_of from to steps in Bent from bend to (on_bow plan edge from bend to)

-- how edges run behind the first ones
abbrev pub courses_behind : Plan → List (ℕ × ℕ) → List (ℕ × ℕ) → List Course
courses_behind plan before [] = []
courses_behind plan before (edge ∷ edges) = course_of plan
    (count_by (have_same_ends edge) before) edge ∷ courses_behind plan (before ++ edge ∷ []) edges

-- where what stands on an edge is, and the corner of the board for what is no edge
abbrev pub place_or_corner : Option Course → Place
place_or_corner (Some course) = place_on course
place_or_corner None = at MARGIN TOP

-- the place of the edge of that number
abbrev pub place_of_edge : List Course → ℕ → Place
place_of_edge courses edge = place_or_corner (slice_get courses edge)

-- the farther of both, in either direction
abbrev pub beyond : Place → Place → Place
beyond a b = at (max a.across b.across) (max a.down b.down)

-- the farthest of a place, an edge's place and its middle
abbrev pub farther : Place → Course → Place
farther far course = beyond (beyond far (place_on course)) (middle_of course)

-- how far the places and the middles of edges reach
abbrev pub farthest : List Course → Place
farthest courses = fold farther (at 0 0) courses

-- ---- edges between vertices on a circle

-- the plan of a graph that is no board of Bridg-It
abbrev pub circle_of : ℕ → Plan
circle_of vertices = record { vertices = vertices; bridge = None }

-- an edge between two of so many vertices
abbrev pub IsChord : ℕ → ℕ × ℕ → Type 0
IsChord vertices edge = (edge.0 < vertices) × (edge.1 < vertices) × (edge.0 ≢ edge.1)

-- the place of an edge that is the first between its ends
abbrev pub chord_place : ℕ → ℕ × ℕ → Place
chord_place vertices edge = place_on (course_of (circle_of vertices) 0 edge)
