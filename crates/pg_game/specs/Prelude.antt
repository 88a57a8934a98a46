-- What the definitions of this crate name of std and of the crates below.
pub use Rattle.pg_base.specs.Points.{AreBelow, AreWithin, ShareNone}
pub use Rattle.pg_base.specs.Sets.{IsBelow, below, either, minus, one_if, outside}
unfoldable pub use Rattle.pg_base.specs.Sets.{count}
pub use Rattle.pg_base.specs.Side.{is_same_side, other}
pub use Rattle.pg_base.specs.WordLemmas.{in_insert}
pub use Rattle.pg_base.specs.declared.goal.Goal.{Goal}
pub use Rattle.pg_base.specs.declared.goal.Goal.TheVariants.{Win}
pub use Rattle.pg_base.specs.declared.grid.Grid.{Grid}
pub use Rattle.pg_base.specs.declared.kind.Kind.{Kind}
pub use Rattle.pg_base.specs.declared.kind.Kind.TheVariants.{AvoiderEnforcer, MakerBreaker}
pub use Rattle.pg_base.specs.declared.kind.Kind.TheVariants.{MakerMaker, Switching}
pub use Rattle.pg_base.specs.declared.limits.TheConstants.{MAX_EDGES}
pub use Rattle.pg_base.specs.declared.score.Score.{Score}
pub use Rattle.pg_base.specs.declared.score.Score.TheVariants.{Draw, XWins, YWins}
pub use Rattle.pg_base.specs.declared.side.Side.{Side}
pub use Rattle.pg_base.specs.declared.side.Side.TheVariants.{X, Y}
pub use Rattle.pg_graph.specs.Graph.{IsBridge, IsGraph, IsJoinedIn, JoinsEndsOf, edge_count}
pub use Rattle.pg_graph.specs.Graph.{first_end_of, joins_in, second_end_of}
pub use Rattle.pg_graph.specs.Joiner.{IsMadeFor, Room}
pub use Rattle.pg_graph.specs.Walks.{IsJoined, first_end, second_end}
unfoldable pub use Rattle.pg_graph.specs.Walks.{joins}
pub use Rattle.pg_graph.specs.declared.graph.Graph.{Graph}
pub use Rattle.std.specs.Bool.{Decides}
pub use Rattle.std.specs.FinSet.{FinSet, contains, insert, len, remove}
pub use Rattle.std.specs.List.{All, AllPairs, AllZip, Any, Contains, count_by, filter, find}
pub use Rattle.std.specs.List.{list_all, list_any, range_with_len, sum_by}
pub use Rattle.std.specs.List.Sorted.{IsStrictlyIncreasing}
pub use Rattle.std.specs.Option.{is_none, option_or}
pub use Rattle.std.specs.Ordering.{nat_cmp}
