use Rattle.std.proofs.Common.{◌≡◌, ◌<◌, length}
use Rattle.pg_graph.specs.Roots.{root_of, IsUpward, SameRoots}
use Rattle.pg_graph.proofs.components.find.Given as goal

abbrev pub invariant-loop-parents : goal.invariant-loop-parents
invariant-loop-parents l = record {
  upward : IsUpward l.parents;
  same : SameRoots l.initial.parents l.parents;
  within : l.here < length l.parents;
  path : root_of l.initial.parents l.here ≡ root_of l.initial.parents l.v;
}

abbrev pub decreases-loop-parents : goal.decreases-loop-parents
decreases-loop-parents l = l.here
