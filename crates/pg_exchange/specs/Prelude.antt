-- What the definitions of this crate name of std and of the crates below.
pub use Rattle.pg_base.specs.Points.{AreBelow, ShareNone}
pub use Rattle.pg_base.specs.Sets.{IsBelow, IsWithin, below, either, minus, one_if}
unfoldable pub use Rattle.pg_base.specs.Sets.{both, count, outside, plus}
pub use Rattle.pg_base.specs.declared.limits.TheConstants.{MAX_MEMBERS}
pub use Rattle.pg_graph.specs.Graph.{IsGraph, IsJoinedIn, edge_count, first_end_of, second_end_of}
pub use Rattle.pg_graph.specs.Graph.{spans_in}
pub use Rattle.pg_graph.specs.Joiner.{AreEdges, IsMadeFor, extended}
pub use Rattle.pg_graph.specs.Labels.{AreLabels}
pub use Rattle.pg_graph.specs.Span.{IsBase, IsReached, IsSpan, circuit}
unfoldable pub use Rattle.pg_graph.specs.Span.{swapped}
pub use Rattle.pg_graph.specs.Walks.{IsJoined, IsWalk}
pub use Rattle.pg_graph.specs.declared.graph.Graph.{Graph}
pub use Rattle.std.specs.FinSet.{FinSet, contains, contains-empty, difference, empty, insert}
pub use Rattle.std.specs.FinSet.{remove, union}
pub use Rattle.std.specs.Ordering.{nat_cmp}
