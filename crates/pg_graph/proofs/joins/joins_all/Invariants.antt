use Rattle.std.proofs.Common.{◌≡◌, ℕ, ◌<◌, true}
use Rattle.std.specs.FinSet.{contains}
use Rattle.pg_graph.specs.Graph.{JoinsEndsOf, first_end_of, second_end_of}
use Rattle.pg_graph.specs.Labels.{IsLabelling}
use Rattle.pg_graph.proofs.joins.joins_all.Given as goal

abbrev pub invariant-loop-k : goal.invariant-loop-k
invariant-loop-k l = record {
  labelled : IsLabelling (first_end_of l.g) (second_end_of l.g) (contains l.set) l.parents;
  each : (f : ℕ) → f < l.k → contains l.members f ≡ true → JoinsEndsOf l.g (contains l.set) f;
}
