use Rattle.std.proofs.Common.{◌-◌, length}
use Rattle.pg_leaf.specs.Pruned.{AreMarked}
use Rattle.pg_leaf.proofs.marks.mark_all.Given as goal

abbrev pub invariant-loop-i : goal.invariant-loop-i
invariant-loop-i l = AreMarked l.nodes (length l.nodes - l.i) l.marks
