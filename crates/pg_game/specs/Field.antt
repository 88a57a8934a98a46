-- What a game is played on: lines of points, or the edges of a multigraph with two terminals.
use Rattle.std.specs.Prelude.{ℕ, Bool, false, List, [], length}
use Rattle.pg_game.specs.Prelude.{Graph, joins, first_end, second_end}
use Rattle.pg_game.specs.declared.field.Field.{Field}
use Rattle.pg_game.specs.declared.field.Field.TheVariants.{Lines, Graph as OnGraph}

-- how many points there are; the points of a graph are its edges
abbrev pub field_points : Field → ℕ
field_points (Lines f) = f.points
field_points (OnGraph h) = length h.ends

-- the lines, none on a graph
abbrev pub field_lines : Field → List (List ℕ)
field_lines (Lines f) = f.lines
field_lines (OnGraph h) = []

-- whether the edges of the set join the two terminals of a graph
abbrev pub terminals_joined : Graph → (ℕ → Bool) → Bool
terminals_joined h set = joins (first_end h.ends) (second_end h.ends) set (length h.ends) h.s h.t

-- the same of what a game is played on; lines have no terminals
abbrev pub field_joins : Field → (ℕ → Bool) → Bool
field_joins (Lines f) set = false
field_joins (OnGraph h) set = terminals_joined h set
