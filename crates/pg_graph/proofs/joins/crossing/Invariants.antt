use Rattle.std.proofs.Common.{◌≡◌, ℕ, ◌<◌, true}
use Rattle.std.specs.FinSet.{contains}
use Rattle.pg_graph.specs.Graph.{first_end_of, second_end_of}
use Rattle.pg_graph.specs.Joiner.{Crosses}
use Rattle.pg_graph.specs.Labels.{IsLabelling}
use Rattle.pg_graph.specs.Roots.{root_of}
use Rattle.pg_graph.proofs.joins.crossing.Given as goal

abbrev pub invariant-loop-k : goal.invariant-loop-k
invariant-loop-k l = record {
  labelled : IsLabelling (first_end_of l.g) (second_end_of l.g) (contains l.set) l.parents;
  inside : root_of l.parents l.u ≡ l.inside;
  none : (j : ℕ)
      → j < l.k
      → contains l.candidates j ≡ true
      → Crosses l.g (contains l.set) l.u j
      → ⊥;
}
