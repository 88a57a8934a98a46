use Rattle.std.proofs.Common.{◌≡◌, ℕ, ◌<◌, true}
use Rattle.std.specs.FinSet.{contains}
use Rattle.pg_graph.specs.Graph.{IsBridge, first_end_of, second_end_of}
use Rattle.pg_graph.specs.Labels.{IsLabelling}
use Rattle.pg_graph.proofs.Bridges.{united}
use Rattle.pg_graph.proofs.joins.bridges_all.Given as goal

abbrev pub invariant-loop-k : goal.invariant-loop-k
invariant-loop-k l = record {
  labelled : IsLabelling (first_end_of l.g) (second_end_of l.g)
      (united (contains l.set) (contains l.members) l.k) l.parents;
  bridges : (f : ℕ)
      → f < l.k
      → contains l.set f ≡ true
      → contains l.members f ≡ true
      → IsBridge l.g (united (contains l.set) (contains l.members) l.k) f;
}
