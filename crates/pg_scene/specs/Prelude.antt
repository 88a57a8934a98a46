-- What the definitions of this crate name of std and of the crates below.
unfoldable pub use Rattle.pg_base.specs.Points.{points_below}
pub use Rattle.pg_base.specs.declared.kind.Kind.{Kind}
pub use Rattle.pg_base.specs.declared.limits.TheConstants.{MAX_EDGES}
pub use Rattle.pg_base.specs.declared.pair.Pair.{Pair}
pub use Rattle.pg_base.specs.declared.side.Side.{Side}
pub use Rattle.pg_cert.specs.Node.{position_of}
pub use Rattle.pg_cert.specs.declared.cert.Claim.{Claim}
pub use Rattle.pg_cert.specs.declared.node.Body.{Body}
pub use Rattle.pg_cert.specs.declared.node.Node.{Node}
pub use Rattle.pg_cert.specs.declared.reply.Reply.{Reply}
pub use Rattle.pg_game.specs.Field.{field_points}
pub use Rattle.pg_game.specs.Fit.{AreLinesOf, FieldFits, IsFit, IsLineOf, is_graph, longest}
pub use Rattle.pg_game.specs.Game.{is_touched, lines_of, point_count, start}
unfoldable pub use Rattle.pg_game.specs.Game.{free_points}
pub use Rattle.pg_game.specs.Position.{is_free}
pub use Rattle.pg_game.specs.Potential.{greatest_length, is_on, line_weight}
unfoldable pub use Rattle.pg_game.specs.Potential.{point_weight}
pub use Rattle.pg_game.specs.declared.field.Field.{Field}
pub use Rattle.pg_game.specs.declared.field.Field.TheVariants.{Lines}
pub use Rattle.pg_game.specs.declared.game.Game.{Game}
pub use Rattle.pg_game.specs.declared.position.Position.{Position}
pub use Rattle.pg_gf2.specs.Classes.{at_turn}
pub use Rattle.pg_gf2.specs.declared.game.VecGame.{VecGame}
pub use Rattle.pg_graph.specs.Graph.{edge_count}
pub use Rattle.pg_span.specs.Game.{marks_at}
pub use Rattle.pg_span.specs.declared.cert.SpanBody.{SpanBody}
pub use Rattle.pg_span.specs.declared.cert.SpanBody.TheVariants.{Parts, Trees}
pub use Rattle.pg_span.specs.declared.cert.SpanClaim.{SpanClaim}
pub use Rattle.pg_span.specs.declared.game.SpanGame.{SpanGame}
pub use Rattle.std.specs.FinSet.{FinSet, contains}
pub use Rattle.std.specs.Fmt.{decimal}
pub use Rattle.std.specs.Global.{Vec}
pub use Rattle.std.specs.List.{All, AllByRecursion, count_by, filter, flat_map, list_any}
pub use Rattle.std.specs.List.{range_with_len, sum_by}
pub use Rattle.std.specs.Ordering.{nat_cmp}
