use Rattle.std.proofs.Common.{◌≡◌, ◌<◌, ℕ, length, slice_index}
use Rattle.pg_graph.specs.Roots.{root_of, IsUpward, SameRoots}
use Rattle.pg_graph.proofs.components.read_roots.Given as goal

abbrev pub invariant-loop-v : goal.invariant-loop-v
invariant-loop-v l = record {
  size : length l.names ≡ length l.parents;
  upward : IsUpward l.parents;
  same : SameRoots l.initial.parents l.parents;
  read : (w : ℕ)
      → w < l.v
      → (slice_index l.names w ≡ root_of l.initial.parents w)
      × (slice_index l.names w < length l.initial.parents);
}
