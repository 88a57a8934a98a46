use Rattle.pg_poly.specs.Corners.{AreAmong}
use Rattle.pg_poly.proofs.corners.Corners.of.Given as goal

abbrev pub invariant-loop-cell : goal.invariant-loop-cell
invariant-loop-cell l = AreAmong l.corners l.cells
