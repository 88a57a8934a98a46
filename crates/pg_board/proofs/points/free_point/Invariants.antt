use Rattle.std.proofs.Common.{◌≡◌, drop}
use Rattle.std.specs.List.{find}
use Rattle.pg_board.specs.Shape.{line_in}
use Rattle.pg_board.specs.Near.{has_none}
use Rattle.pg_board.proofs.points.free_point.Given as goal

abbrev pub invariant-loop-v : goal.invariant-loop-v
invariant-loop-v l = find (has_none l.trail.cells) (drop l.v-index (line_in l.layout l.fn.line))
    ≡ find (has_none l.trail.cells) (line_in l.layout l.fn.line)
