-- What the definitions of this crate name of std and of the crates below.
pub use Rattle.pg_base.specs.Texts.{count_text}
pub use Rattle.pg_base.specs.declared.kind.Kind.{Kind}
pub use Rattle.pg_base.specs.declared.kind.Kind.TheVariants.{AvoiderEnforcer, MakerBreaker}
pub use Rattle.pg_base.specs.declared.kind.Kind.TheVariants.{MakerMaker, Switching}
pub use Rattle.pg_base.specs.declared.limits.TheConstants.{MAX_MEMBERS}
pub use Rattle.pg_base.specs.declared.side.Side.{Side}
pub use Rattle.pg_cert.specs.declared.cert.Claim.{Claim}
pub use Rattle.pg_cert.specs.declared.node.Body.{Body}
pub use Rattle.pg_game.specs.Fit.{is_graph}
pub use Rattle.pg_game.specs.Game.{is_touched, lines_of, point_count}
pub use Rattle.pg_game.specs.Position.{is_free, points_of}
pub use Rattle.pg_game.specs.Potential.{IsBaseOf, greatest_length}
unfoldable pub use Rattle.pg_game.specs.Potential.{full_weight}
pub use Rattle.pg_game.specs.declared.field.Field.{Field}
pub use Rattle.pg_game.specs.declared.field.Field.TheVariants.{Graph, Lines}
pub use Rattle.pg_game.specs.declared.game.Game.{Game}
pub use Rattle.pg_game.specs.declared.position.Position.{Position}
pub use Rattle.pg_gf2.specs.Classes.{at_turn}
pub use Rattle.pg_gf2.specs.declared.game.VecGame.{VecGame}
pub use Rattle.pg_graph.specs.Graph.{edge_count}
pub use Rattle.pg_span.specs.Game.{marks_at}
pub use Rattle.pg_span.specs.declared.cert.SpanBody.{SpanBody}
pub use Rattle.pg_span.specs.declared.cert.SpanBody.TheVariants.{Parts, Trees}
pub use Rattle.pg_span.specs.declared.cert.SpanClaim.{SpanClaim}
pub use Rattle.pg_span.specs.declared.game.SpanGame.{SpanGame}
pub use Rattle.std.specs.FinSet.{FinSet, contains}
pub use Rattle.std.specs.Fmt.{decimal}
pub use Rattle.std.specs.List.{All, count_by, list_any, range_with_len}
pub use Rattle.std.specs.Ordering.{nat_cmp}
