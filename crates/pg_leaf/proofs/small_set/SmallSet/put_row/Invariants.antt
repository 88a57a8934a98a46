use Rattle.pg_leaf.proofs.SmallSetLaws.{AreThose}
use Rattle.pg_leaf.proofs.small_set.SmallSet.put_row.Given as goal

abbrev pub invariant-loop-v : goal.invariant-loop-v
invariant-loop-v l = AreThose l.self l.v l.points
