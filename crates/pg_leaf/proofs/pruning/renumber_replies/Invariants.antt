use Rattle.std.proofs.Common.{take}
use Rattle.pg_leaf.specs.Pruned.{AreRenumbered}
use Rattle.pg_leaf.proofs.pruning.renumber_replies.Given as goal

abbrev pub invariant-loop-r : goal.invariant-loop-r
invariant-loop-r l = AreRenumbered l.numbers (take l.r-index l.replies) l.new.items
