-- What the definitions of this crate name of std and of the crates below.
pub use Rattle.pg_base.specs.declared.kind.Kind.TheVariants.{Switching}
pub use Rattle.pg_base.specs.declared.limits.TheConstants.{MAX_MEMBERS}
pub use Rattle.pg_base.specs.declared.score.Score.{Score}
pub use Rattle.pg_board.specs.Board.{View}
pub use Rattle.pg_cert.specs.Limits.{IsBody, IsClaim, IsNode, IsOfVersion, IsReply, has_body}
pub use Rattle.pg_cert.specs.declared.cert.Claim.{Claim}
pub use Rattle.pg_cert.specs.declared.cert.Version.TheVariants.{One}
pub use Rattle.pg_cert.specs.declared.limits.TheConstants.{MAX_CLAIM_NODES}
pub use Rattle.pg_cert.specs.declared.node.Body.{Body}
pub use Rattle.pg_cert.specs.declared.node.Node.{Node}
pub use Rattle.pg_cert.specs.declared.reply.Reply.{Reply}
pub use Rattle.pg_game.specs.Decided.{IsQuestion, claimed_goal, claimer}
pub use Rattle.pg_game.specs.Game.{IsPosition, after, lines_of, point_count}
unfoldable pub use Rattle.pg_game.specs.Game.{free_points}
pub use Rattle.pg_game.specs.Position.{is_free}
pub use Rattle.pg_game.specs.declared.game.Game.{Game}
pub use Rattle.pg_game.specs.declared.position.Position.{Position}
pub use Rattle.pg_match.specs.Cache.{Cache, Fits}
pub use Rattle.pg_transpositions.specs.Table.{count_of, most_of}
pub use Rattle.std.specs.List.{All}
