-- What the definitions of this crate name of std and of the crates below.
pub use Rattle.pg_base.specs.Points.{ShareNone}
pub use Rattle.pg_base.specs.Sets.{IsBelow, IsWithin, below, both, either, one_if, plus}
unfoldable pub use Rattle.pg_base.specs.Sets.{count, minus, outside}
pub use Rattle.pg_base.specs.Side.{is_same_side, other}
pub use Rattle.pg_base.specs.declared.goal.Goal.TheVariants.{Win}
pub use Rattle.pg_base.specs.declared.kind.Kind.TheVariants.{Switching}
pub use Rattle.pg_base.specs.declared.score.Score.{Score}
pub use Rattle.pg_base.specs.declared.score.Score.TheVariants.{XWins, YWins}
pub use Rattle.pg_base.specs.declared.side.Side.{Side}
pub use Rattle.pg_base.specs.declared.side.Side.TheVariants.{X, Y}
pub use Rattle.pg_game.specs.Field.{field_joins, field_points, terminals_joined}
pub use Rattle.pg_game.specs.Fit.{AreBelow, greatest_bias}
pub use Rattle.pg_game.specs.Game.{IsPosition, after, all_touched, can_join, has_filled, is_full}
pub use Rattle.pg_game.specs.Game.{is_over_by, outcome_by, point_count, short_joins}
unfoldable pub use Rattle.pg_game.specs.Game.{is_over, outcome}
pub use Rattle.pg_game.specs.Judge.{IsMadeForGame}
pub use Rattle.pg_game.specs.Judging.{ending_by, judged_by}
pub use Rattle.pg_game.specs.Position.{claims_in_turn, is_free}
pub use Rattle.pg_game.specs.Rules.{ForcesBy, IsEnding, IsPlayBy, KeepsBy, Rules, moved, played_by}
pub use Rattle.pg_game.specs.Rules.{reaches}
pub use Rattle.pg_game.specs.Trees.{Answered, AreCuts, AreFreeEdges, AreFreeWithE, AreTrees}
pub use Rattle.pg_game.specs.Trees.{CutsHold, CutsHoldOn, IsFreeEdge, TreesHold, TreesHoldOn}
pub use Rattle.pg_game.specs.Trees.{answered_edge, claimed, cut_edge, differ, lowest_crossing}
pub use Rattle.pg_game.specs.Trees.{lowest_free_edge, lowest_parting, short_edge, with_set}
pub use Rattle.pg_game.specs.Trees.{without_set}
unfoldable pub use Rattle.pg_game.specs.Trees.{cuts_answer, trees_answer}
pub use Rattle.pg_game.specs.Value.{Forces, rules_of}
pub use Rattle.pg_game.specs.declared.field.Field.{Field}
pub use Rattle.pg_game.specs.declared.field.Field.TheVariants.{Lines}
pub use Rattle.pg_game.specs.declared.game.Game.{Game}
pub use Rattle.pg_game.specs.declared.position.Position.{Position}
pub use Rattle.pg_graph.specs.Graph.{IsBridge, IsGraph, JoinsEndsOf, edge_count, first_end_of}
pub use Rattle.pg_graph.specs.Graph.{joins_in, second_end_of, spans_in}
pub use Rattle.pg_graph.specs.Joiner.{AreBothEdges, AreEdges, Crosses, IsLowest, IsMadeFor, Parts}
unfoldable pub use Rattle.pg_graph.specs.Joiner.{crosses, parts}
pub use Rattle.pg_graph.specs.Span.{IsBase, IsCuts, IsReached, IsSpan, IsTrees, circuit}
pub use Rattle.pg_graph.specs.Walks.{IsJoined, IsWalk, first_end, joins, second_end}
unfoldable pub use Rattle.pg_graph.specs.Walks.{edge_spans}
pub use Rattle.pg_graph.specs.declared.graph.Graph.{Graph}
pub use Rattle.std.specs.FinSet.{FinSet, contains, contains-empty, difference, empty, insert}
pub use Rattle.std.specs.FinSet.{remove, union}
pub use Rattle.std.specs.List.{find, range_with_len}
pub use Rattle.std.specs.Ordering.{nat_cmp}
