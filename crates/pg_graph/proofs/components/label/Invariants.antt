use Rattle.pg_graph.proofs.Common.{contains, below}
use Rattle.pg_graph.specs.Graph.{first_end_of, second_end_of}
use Rattle.pg_graph.specs.Labels.{IsLabelling}
use Rattle.pg_graph.proofs.components.label.Given as goal

abbrev pub invariant-loop-k : goal.invariant-loop-k
invariant-loop-k l =
    IsLabelling (first_end_of l.g) (second_end_of l.g) (below (contains l.set) l.k) l.parents
