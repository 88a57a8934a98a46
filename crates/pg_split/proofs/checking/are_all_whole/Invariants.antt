use Rattle.pg_split.specs.Splits.{AreWholeBelow}
use Rattle.pg_split.proofs.checking.are_all_whole.Given as goal

abbrev pub invariant-loop-i : goal.invariant-loop-i
invariant-loop-i l = AreWholeBelow l.game l.old l.positions l.plan l.i
