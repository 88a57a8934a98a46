-- What the definitions of this crate name of std and of the crates below.
pub use Rattle.pg_base.specs.Points.{AreBelow, IsLeastFrom, ShareNone}
pub use Rattle.pg_base.specs.Sets.{IsBelow, IsWithin, below, both, either, minus, one_if, outside}
unfoldable pub use Rattle.pg_base.specs.Sets.{count, plus}
pub use Rattle.pg_base.specs.Side.{is_same_side, other}
pub use Rattle.pg_base.specs.declared.goal.Goal.TheVariants.{Win}
pub use Rattle.pg_base.specs.declared.score.Score.{Score}
pub use Rattle.pg_base.specs.declared.score.Score.TheVariants.{Draw, XWins, YWins}
pub use Rattle.pg_base.specs.declared.side.Side.{Side}
pub use Rattle.pg_base.specs.declared.side.Side.TheVariants.{X, Y}
pub use Rattle.pg_exchange.specs.Chain.{AreBases, IsSettled}
pub use Rattle.pg_exchange.specs.Forest.{graph_matroid}
unfoldable pub use Rattle.pg_exchange.specs.Forest.{elements_of}
pub use Rattle.pg_exchange.specs.Matroid.{Matroid}
pub use Rattle.pg_game.specs.Judging.{ending_by, judged_by}
pub use Rattle.pg_game.specs.Position.{is_free}
pub use Rattle.pg_game.specs.Rules.{ForcesBy, IsPlayBy, Rules, moved, played_by, reaches, value_by}
pub use Rattle.pg_game.specs.Trees.{Answered, IsFreeEdge, answered_edge, claimed, differ}
pub use Rattle.pg_game.specs.Trees.{lowest_free_edge, short_edge, with_set}
unfoldable pub use Rattle.pg_game.specs.Trees.{trees_answer}
pub use Rattle.pg_game.specs.declared.bounds.TheConstants.{MAX_VERTICES}
pub use Rattle.pg_game.specs.declared.position.Position.{Position}
pub use Rattle.pg_graph.specs.Graph.{IsGraph, IsJoinedIn, edge_count, first_end_of, joins_in}
pub use Rattle.pg_graph.specs.Graph.{second_end_of, spans_in}
pub use Rattle.pg_graph.specs.Joiner.{AreEdges, Crosses, IsLowest, IsMadeFor, Room}
pub use Rattle.pg_graph.specs.Labels.{AreLabels}
pub use Rattle.pg_graph.specs.Span.{IsBase}
pub use Rattle.pg_graph.specs.declared.graph.Graph.{Graph}
pub use Rattle.pg_switch.specs.Claims.{IsPlace, kept}
pub use Rattle.pg_switch.specs.Replies.{short_reply}
pub use Rattle.pg_switch.specs.Seat.{HeldUntilReply, IsDue, IsOnPlan}
pub use Rattle.pg_switch.specs.Span.{AreJoiningTrees, AreParts, IsFirst, connectivity_rules}
pub use Rattle.pg_switch.specs.Span.{crosses, crossing, joins_all, spare, with_first}
unfoldable pub use Rattle.pg_switch.specs.Span.{image, joins_below, joins_pairs}
pub use Rattle.std.specs.FinSet.{FinSet, contains, insert, remove}
pub use Rattle.std.specs.List.{All, range_with_len}
pub use Rattle.std.specs.Ordering.{nat_cmp}
