-- The file of a layout: what each line says, and the first fault.
use Rattle.std.specs.Prelude.{ℕ, zero, suc, ◌||◌, ◌==◌, Bool, false, nat_le, nat_lt}
use Rattle.std.specs.Prelude.{if◌then◌else◌, List, [], ◌∷◌, ◌++◌, length, Option, Some, None}
use Rattle.std.specs.Prelude.{Result, Ok, Err, codes}
use Rattle.pg_layout.specs.Prelude.{Bytes, bytes_eq, least, lines, list_any, number, reading}
use Rattle.pg_layout.specs.Prelude.{unless, words}
use Rattle.pg_layout.specs.Layouts.{is_near}
use Rattle.pg_layout.specs.declared.fault.Fault.{Fault}
use Rattle.pg_layout.specs.declared.fault.Fault.TheVariants as faults
use Rattle.pg_layout.specs.declared.fault.TheConstants.{MAX_LAYOUT_BYTES}
use Rattle.pg_layout.specs.declared.line.Placed.{Placed}
use Rattle.pg_layout.specs.declared.line.Said.{Said}
use Rattle.pg_layout.specs.declared.spot.Spot.{Spot}
use Rattle.pg_layout.specs.declared.spot.TheConstants.{MAX_STEPS}

-- ---- what a line says

-- three numbers
abbrev pub three_of : Option ℕ → Option ℕ → Option ℕ → Option Said
three_of (Some p) (Some x) (Some y) = Some (record { point = p; column = x; line = y })
three_of _ _ _ = None

-- the words `at P X Y`
abbrev pub said_by : List Bytes → Option Said
said_by (name ∷ p ∷ x ∷ y ∷ []) =
    if bytes_eq name (codes "at") then three_of (number p) (number x) (number y) else None
said_by _ = None

-- the place that a line says
abbrev pub said_spot : Said → Spot
said_spot s = record { column = s.column; line = s.line }

-- ---- the faults of a line

-- the point has a place
abbrev pub is_placed : List Placed → ℕ → Bool
is_placed placed point = list_any (λ (q : Placed). q.point == point) placed

-- the place is too near that of a point
abbrev pub is_crowded : List Placed → Spot → Bool
is_crowded placed spot = list_any (λ (q : Placed). is_near q.spot spot) placed

-- the column or the line is too great
abbrev pub is_outside : Said → Bool
is_outside s = nat_lt MAX_STEPS s.column || nat_lt MAX_STEPS s.line

-- the faults of a line of three numbers, for a board of so many points of which some have places,
-- in ascending order, each with whether it applies
abbrev pub line_faults : ℕ → List Placed → Said → List (Fault × Bool)
line_faults points placed s = (faults.Point, nat_le points s.point)
    ∷ (faults.Twice, is_placed placed s.point)
    ∷ (faults.Range, is_outside s)
    ∷ (faults.Near, is_crowded placed (said_spot s)) ∷ []

-- ---- the lines in turn

-- one more point with its place, or the fault of its line
abbrev pub with_one : ℕ → List Placed → Said → Result (List Placed) Fault
with_one points placed s = unless (least (line_faults points placed s))
    (placed ++ record { point = s.point; spot = said_spot s } ∷ [])

-- the same by what the words say
abbrev pub with_said : ℕ → List Placed → Option Said → Result (List Placed) Fault
with_said points placed None = Err faults.Form
with_said points placed (Some s) = with_one points placed s

abbrev pub with_line : ℕ → List Placed → List Bytes → Result (List Placed) Fault
with_line points placed ws = with_said points placed (said_by ws)

-- a line that is skipped
abbrev pub begins_comment : Bytes → Bool
begins_comment [] = false
begins_comment (b ∷ bs) = b == 35

-- the points that have places after a line, or the line's fault
unfoldable pub after : ℕ → List Placed → Bytes → Result (List Placed) Fault
after points placed line = if begins_comment line || length (words line) == 0
    then Ok placed
    else with_line points placed (words line)

-- ---- the whole file

-- the place of a point, if it has one
abbrev pub spot_of : List Placed → ℕ → Option Spot
spot_of [] point = None
spot_of (q ∷ qs) point = if q.point == point then Some q.spot else spot_of qs point

-- one place more
abbrev pub and_spot : Option (List Spot) → Option Spot → Option (List Spot)
and_spot (Some spots) (Some spot) = Some (spots ++ spot ∷ [])
and_spot _ _ = None

-- the places of the points below a number, if each has one
unfoldable pub spots_below : List Placed → ℕ → Option (List Spot)
spots_below placed zero = Some []
spots_below placed (suc n) = and_spot (spots_below placed n) (spot_of placed n)

-- the places, or that one is missing
abbrev pub all_or : Option (List Spot) → Result (List Spot) (Fault × ℕ)
all_or (Some spots) = Ok spots
all_or None = Err (faults.Missing, 0)

abbrev pub ended : ℕ → List Placed → Result (List Spot) (Fault × ℕ)
ended points placed = all_or (spots_below placed points)

-- what the lines say, and at their end whether a place is missing
abbrev pub said : ℕ → Result (List Placed) (Fault × ℕ) → Result (List Spot) (Fault × ℕ)
said points (Ok placed) = ended points placed
said points (Err fault) = Err fault

-- the layout of so many points that a file says, or its first fault with the number of the line
unfoldable pub layout_of : ℕ → Bytes → Result (List Spot) (Fault × ℕ)
layout_of points text = if nat_lt MAX_LAYOUT_BYTES (length text)
    then Err (faults.Size, 0)
    else said points (reading (after points) 1 [] (lines text))
