use Rattle.pg_leaf.specs.Pruned.{IsPruned}
use Rattle.pg_leaf.proofs.pruning.marked_nodes.Given as goal

abbrev pub invariant-loop-k : goal.invariant-loop-k
invariant-loop-k l = IsPruned l.nodes l.marks l.k l.numbers.items l.out.items
