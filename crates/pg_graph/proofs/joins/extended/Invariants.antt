use Rattle.std.proofs.Common.{◌≡◌}
use Rattle.pg_graph.proofs.Common.{contains, either}
use Rattle.pg_graph.specs.Graph.{first_end_of, second_end_of}
use Rattle.pg_graph.specs.Joiner.{extended}
use Rattle.pg_graph.specs.Labels.{IsLabelling}
use Rattle.pg_graph.proofs.joins.extended.Given as goal

abbrev pub invariant-loop-k : goal.invariant-loop-k
invariant-loop-k l = record {
  labelled : IsLabelling (first_end_of l.g) (second_end_of l.g)
      (either (contains l.set) (contains l.there)) l.parents;
  value : contains l.there
      ≡ extended l.g (contains l.set) (contains l.candidates) (contains l.base) l.k;
}
