use Rattle.std.proofs.Common.{◌≡◌, ℕ, ◌<◌, true}
use Rattle.std.specs.FinSet.{contains}
use Rattle.pg_graph.specs.Labels.{HaveOneRoot}
use Rattle.pg_graph.specs.Roots.{IsUpward, SameRoots}
use Rattle.pg_graph.proofs.joins.are_apart.Given as goal

abbrev pub invariant-loop-k : goal.invariant-loop-k
invariant-loop-k l = record {
  upward : IsUpward l.parents;
  same : SameRoots l.fn.parents l.parents;
  each : (f : ℕ) → f < l.k → contains l.members f ≡ true → HaveOneRoot l.g l.fn.parents f → ⊥;
}
