use Rattle.std.proofs.Common.{◌*◌}
use Rattle.pg_leaf.proofs.SmallSetLaws.{AreThose}
use Rattle.pg_leaf.proofs.small_set.SmallSet.widened.Given as goal

abbrev pub invariant-loop-row : goal.invariant-loop-row
invariant-loop-row l = AreThose l.self (64 * l.row) l.points
