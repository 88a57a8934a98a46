use Rattle.std.proofs.Common.{take}
use Rattle.pg_leaf.specs.Pruned.{AreNamed, MarksMore}
use Rattle.pg_leaf.proofs.marks.mark_replies.Given as goal

abbrev pub invariant-loop-r : goal.invariant-loop-r
invariant-loop-r l = MarksMore (AreNamed (take l.r-index l.replies)) l.fn.marks l.marks
