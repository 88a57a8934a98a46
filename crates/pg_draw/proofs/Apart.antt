-- Lines with two points in common are drawn apart.
use Rattle.std.proofs.Common.{◌≡◌, ◌≢◌, ℕ, ◌+◌, ◌*◌, ◌-◌, ◌/◌, ◌%◌, ◌<◌, ◌≤◌, ◌==◌, ap, sym}
use Rattle.std.proofs.Common.{true, false, List, [], get_or, length, inl, inr, arith, subst}
use Rattle.std.specs.Prelude.{Option, Some, None, if◌then◌else◌, max, nat_le, slice_get}
use Rattle.pg_base.specs.declared.grid.Grid.{Grid as Cells}
use Rattle.pg_game.specs.Field.{field_lines}
use Rattle.pg_game.specs.declared.field.Field.{Field}
use Rattle.pg_game.specs.declared.field.Field.TheVariants.{Lines, Graph as OnGraph}
use Rattle.pg_layout.specs.Layouts.{spots_of}
use Rattle.pg_layout.specs.declared.chart.Chart.{Chart}
use Rattle.pg_places.proofs.Circles.{part_fits, place_in as place_in_quarter}
use Rattle.pg_scene.proofs.Lanes.{lane_low, lanes_differ}
use Rattle.pg_scene.specs.Scenes.{laid_board}
use Rattle.pg_captions.specs.declared.lines.TheConstants.{MAX_DRAWN_LINES}
use Rattle.pg_draw.proofs.Common.{Board, Course, Game, IsBoardOf, Look, MAX_ON_RING, Place, ROW}
use Rattle.pg_draw.proofs.Common.{Spot, TOP, and_parts, are_drawn, cases_Bool, lane_of, lines_of}
use Rattle.pg_draw.proofs.Common.{mod_below, nat_tests, part_of, place_of_spot}
use Rattle.pg_draw.proofs.Common.{place_on_circle, place_on_grid, place_on_ring}
use Rattle.pg_draw.proofs.Common.{radius_of, spot_or_corner}
use Rattle.pg_draw.specs.Laws.{AreDrawnApart}
use Rattle.pg_draw.specs.Shapes.{courses_of, lane_place, place_beside, place_of}
use Rattle.pg_draw.specs.declared.measures.TheConstants.{GROUP, GROUP_ACROSS, GROUP_DOWN, LANES}
use Rattle.pg_draw.specs.declared.measures.TheConstants.{LANE_ACROSS, LANE_DOWN}

-- ---- lanes

-- how many steps beside another the place of that number is: 8 are none, and fewer are above it
steps_to : ℕ → ℕ
steps_to number = if number % 2 == 1 then 8 + (number / 2 + 1) else 8 - number / 2

is_odd : (number : ℕ) → (number % 2 == 1) ≡ true → number % 2 ≡ 1
is_odd number odd = grind (arith, nat_tests)

is_even : (number : ℕ) → (number % 2 == 1) ≡ false → number % 2 ≡ 0
is_even number even =
    let differ : number % 2 ≢ 1 = grind (arith, nat_tests) in
    let low = mod_below number 2 (omega arith) in
    omega (arith, differ, low)

steps_odd : (number : ℕ) → (number % 2 == 1) ≡ true → steps_to number ≡ 8 + (number / 2 + 1)
unfolding steps_to
steps_odd number odd = rw odd (omega arith)

steps_even : (number : ℕ) → (number % 2 == 1) ≡ false → steps_to number ≡ 8 - number / 2
unfolding steps_to
steps_even number even = rw even (omega arith)

-- different numbers have different steps
steps_same : (a b : ℕ) → a < 6 → b < 6 → steps_to a ≡ steps_to b → a ≡ b
steps_same a b few less same = elim (cases_Bool (a % 2 == 1)) [
  | inl odd ↦ elim (cases_Bool (b % 2 == 1)) [
    | inl also ↦
        omega (
          arith,
          same,
          steps_odd a odd,
          steps_odd b also,
          is_odd a odd,
          is_odd b also,
        )
    | inr even ↦ absurd (omega (arith, same, steps_odd a odd, steps_even b even))
  ]
  | inr even ↦ elim (cases_Bool (b % 2 == 1)) [
    | inl odd ↦ absurd (omega (arith, same, steps_odd b odd, steps_even a even))
    | inr also ↦
        omega (
          arith,
          same,
          few,
          less,
          steps_even a even,
          steps_even b also,
          is_even a even,
          is_even b also,
        )
  ]
]

steps_many : (number : ℕ) → number < 6 → 6 ≤ steps_to number
steps_many number few = elim (cases_Bool (number % 2 == 1)) [
  | inl odd ↦ omega (arith, steps_odd number odd)
  | inr even ↦ omega (arith, steps_even number even)
]

steps_few : (number : ℕ) → number < 5 → steps_to number ≤ 10
steps_few number few = elim (cases_Bool (number % 2 == 1)) [
  | inl odd ↦ omega (arith, few, steps_odd number odd, is_odd number odd)
  | inr even ↦ omega (arith, steps_even number even)
]

-- how far down the places of groups are
group_down : (number : ℕ) (place : Place)
    → number < 6
    → 10 ≤ place.down
    → (place_beside number GROUP_ACROSS GROUP_DOWN place).down + 40
    ≡ place.down + 5 * steps_to number
group_down number place few low = elim (cases_Bool (number % 2 == 1)) [
  | inl odd ↦ let steps = steps_odd number odd in rw odd (omega (arith, steps))
  | inr even ↦ let steps = steps_even number even in rw even (omega (arith, steps, low, few))
]

-- and those of lanes in a group
lane_down : (number : ℕ) (place : Place)
    → number < 6
    → 10 ≤ place.down
    → (place_beside number LANE_ACROSS LANE_DOWN place).down + 24
    ≡ place.down + 3 * steps_to number
lane_down number place few low = elim (cases_Bool (number % 2 == 1)) [
  | inl odd ↦ let steps = steps_odd number odd in rw odd (omega (arith, steps))
  | inr even ↦ let steps = steps_even number even in rw even (omega (arith, steps, low, few))
]

place_down : (lane : ℕ) (place : Place)
    → TOP ≤ place.down
    → (lane_place lane place).down + 64
    ≡ place.down + 5 * steps_to (lane % LANES / GROUP) + 3 * steps_to (lane % LANES % GROUP)
unfolding lane_place
place_down lane place low =
    let among = mod_below lane LANES (omega arith) in
    let last = mod_below (lane % LANES) GROUP (omega arith) in
    let group_few : lane % LANES / GROUP < 6 = omega (arith, among) in
    let many = steps_many (lane % LANES / GROUP) group_few in
    let group = group_down (lane % LANES / GROUP) place group_few (omega (arith, low)) in
    let beside = place_beside (lane % LANES / GROUP) GROUP_ACROSS GROUP_DOWN place in
    let lower : 10 ≤ beside.down = omega (arith, group, many, low) in
    let here = lane_down (lane % LANES % GROUP) beside (omega (arith, last)) lower in
    omega (arith, group, here)

lanes_apart : (a b : ℕ) (place : Place)
    → TOP ≤ place.down
    → a < LANES
    → b < LANES
    → lane_place a place ≡ lane_place b place
    → a ≡ b
lanes_apart a b place low few less same =
    let down = ap (λ (p : Place). p.down) same in
    let first = place_down a place low in
    let second = place_down b place low in
    let a_rest = mod_below (a % LANES) GROUP (omega arith) in
    let b_rest = mod_below (b % LANES) GROUP (omega arith) in
    let a_group : a % LANES / GROUP < 6 = omega (arith, few) in
    let b_group : b % LANES / GROUP < 6 = omega (arith, less) in
    let a_many = steps_many (a % LANES % GROUP) (omega (arith, a_rest)) in
    let b_many = steps_many (b % LANES % GROUP) (omega (arith, b_rest)) in
    let a_few = steps_few (a % LANES % GROUP) (omega (arith, a_rest)) in
    let b_few = steps_few (b % LANES % GROUP) (omega (arith, b_rest)) in
    let rest : steps_to (a % LANES % GROUP) ≡ steps_to (b % LANES % GROUP) =
    omega (arith, down, first, second, a_many, b_many, a_few, b_few) in
    let group : steps_to (a % LANES / GROUP) ≡ steps_to (b % LANES / GROUP) =
    omega (arith, down, first, second, rest) in
    let rests = steps_same (a % LANES % GROUP) (b % LANES % GROUP) (omega (arith, a_rest))
    (omega (arith, b_rest)) rest in
    let groups = steps_same (a % LANES / GROUP) (b % LANES / GROUP) a_group b_group group in
    omega (arith, rests, groups, few, less)

-- ---- places

quarter_low : (r q s c : ℕ) → s ≤ r → c ≤ r → 72 ≤ (place_in_quarter r q s c).down
quarter_low r q s c sr cr =
    elim (cases_Bool (q == 0)) [
      | inl e ↦ rw e (omega arith)
      | inr d ↦ elim (cases_Bool (q == 1)) [
        | inl e ↦ rw (d, e) (omega arith)
        | inr f ↦ elim (cases_Bool (q == 2)) [
          | inl e ↦ rw (d, f, e) (omega arith)
          | inr b ↦ rw (d, f, b) (omega arith)
        ]
      ]
    ]

circle_low : (count u : ℕ) → TOP ≤ (place_on_circle count u).down
unfolding place_on_circle
circle_low count u =
    let r = radius_of count in
    let step = u * 512 / max count 1 in
    let low = mod_below step 128 (omega arith) in
    let down =
    quarter_low r (step / 128) (part_of r (step % 128)) (part_of r (128 - step % 128))
    (part_fits r (step % 128) (omega arith)) (part_fits r (128 - step % 128) (omega arith)) in
    omega (arith, down)

grid_low : (width v : ℕ) → TOP ≤ (place_on_grid width v).down
unfolding place_on_grid
grid_low width v = omega arith

ring_low : (points v : ℕ) → TOP ≤ (place_on_ring points v).down
ring_low points v =
    elim (cases_Bool (nat_le points MAX_ON_RING)) [
      | inl few ↦ rw few (circle_low points v)
      | inr many ↦ rw many (grid_low ROW v)
    ]

spot_low : (spot : Option Spot) → TOP ≤ (spot_or_corner spot).down
unfolding place_of_spot
spot_low None = omega arith
spot_low (Some s) = omega arith

-- the points of a game on lines
laid_low : (layout : Option Chart) (grid : Option Cells) (points v : ℕ) (courses : List Course)
    → TOP ≤ (place_of (laid_board layout grid points) courses v).down
laid_low None None points v courses = ring_low points v
laid_low None (Some cells) points v courses = grid_low cells.width v
laid_low (Some chart) (Some cells) points v courses = grid_low cells.width v
laid_low (Some chart) None points v courses = elim (cases_Bool (chart.count == points)) [
  | inl same ↦ rw same (spot_low (slice_get (spots_of chart) v))
  | inr other ↦ rw other (ring_low points v)
]

-- ---- boards

-- lines whose points are low enough, if there are few of them
lines_apart : (board : Board) (lines : List (List ℕ))
    → ((v : ℕ) → TOP ≤ (place_of board (courses_of board) v).down)
    → length lines ≤ LANES
    → AreDrawnApart board lines
lines_apart board lines low few i j v before inside on = λ same.
    let lanes = lanes_differ lines i j before on in
    let first = lane_low lines i (get_or lines i []) in
    let second = lane_low lines j (get_or lines j []) in
    let equal = lanes_apart (lane_of lines i) (lane_of lines j)
    (place_of board (courses_of board) v) (low v) (omega (arith, first, before, inside, few))
    (omega (arith, second, inside, few)) same in
    omega (arith, lanes, equal)

fields_apart : (layout : Option Chart) (field : Field) (board : Board)
    → IsBoardOf layout field board
    → length (field_lines field) ≤ LANES
    → AreDrawnApart board (field_lines field)
fields_apart layout (Lines f) board is few =
    subst (λ (b : Board). AreDrawnApart b f.lines) (sym is)
    (lines_apart (laid_board layout f.grid f.points) f.lines (λ v. laid_low layout f.grid f.points v
    (courses_of (laid_board layout f.grid f.points))) few)
fields_apart layout (OnGraph h) board is few =
    λ i j v before inside on. absurd (omega (arith, inside))

drawn_few : (n : ℕ) → nat_le n MAX_DRAWN_LINES ≡ true → n ≤ LANES
drawn_few n few = grind (arith, nat_tests)

pub drawn_apart : (look : Look) (g : Game) (board : Board)
    → IsBoardOf look.layout g.field board
    → are_drawn look.lines (lines_of g) ≡ true
    → AreDrawnApart board (lines_of g)
drawn_apart look g board is drawn = fields_apart look.layout g.field board is
    (drawn_few (length (lines_of g)) (and_parts _ _ drawn).1)
