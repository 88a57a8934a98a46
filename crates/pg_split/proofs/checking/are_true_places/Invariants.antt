use Rattle.pg_split.specs.Splits.{AreTrueBelow}
use Rattle.pg_split.proofs.checking.are_true_places.Given as goal

abbrev pub invariant-loop-i : goal.invariant-loop-i
invariant-loop-i l = AreTrueBelow l.game l.first l.positions l.pieces l.plan l.i
