use Rattle.std.proofs.Common.{◌≡◌}
use Rattle.pg_board.specs.Fits.{set_below, has_mark}
use Rattle.pg_board.proofs.points.marked.Given as goal

abbrev pub invariant-loop-v : goal.invariant-loop-v
invariant-loop-v l = l.points ≡ set_below (has_mark l.trail.cells l.fn.side) l.v
