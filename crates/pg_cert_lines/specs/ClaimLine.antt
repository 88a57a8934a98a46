-- What first lines, claim lines and `nodes` lines say.
use Rattle.std.specs.Prelude.{if◌then◌else◌, Option, Some, None, codes}
use Rattle.pg_cert_lines.specs.Prelude.{bytes_eq, Version, One, Two, SPACE, Side, Goal, goal_of}
use Rattle.pg_cert_lines.specs.Prelude.{Bytes, Four, two_parts, four_parts, side_of}
use Rattle.pg_cert_lines.specs.declared.head.Head.{Head}

-- the version that a first line names
abbrev pub version_of : Bytes → Option Version
version_of line =
    if bytes_eq line (codes "posgame-cert 1") then Some One
    else if bytes_eq line (codes "posgame-cert 2") then Some Two
    else None

-- a claim of two sides and a goal
abbrev pub head_with : Option Side → Option Side → Option Goal → Option Head
head_with (Some turn) (Some side) (Some goal) = Some (record {
  turn = turn;
  side = side;
  goal = goal;
})
head_with _ _ _ = None

-- what four words claim
abbrev pub head_of_four : Option Four → Option Head
head_of_four None = None
head_of_four (Some f) = if bytes_eq f.first (codes "claim")
    then head_with (side_of f.second) (side_of f.third) (goal_of f.fourth)
    else None

-- what a claim line says, if it has the form of one
unfoldable pub head_of : Bytes → Option Head
head_of line = head_of_four (four_parts SPACE line)

-- the second of two words of which the first is `nodes`
abbrev pub count_of_two : Option (Bytes × Bytes) → Option Bytes
count_of_two None = None
count_of_two (Some p) = if bytes_eq p.0 (codes "nodes") then Some p.1 else None

-- the word of a `nodes` line in which its number stands, if it has the form of one
unfoldable pub count_of : Bytes → Option Bytes
count_of line = count_of_two (two_parts SPACE line)
