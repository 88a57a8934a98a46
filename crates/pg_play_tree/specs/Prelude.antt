-- What the definitions of this crate name of std and of the crates below.
pub use Rattle.pg_base.specs.declared.kind.Kind.TheVariants.{Switching}
pub use Rattle.pg_base.specs.declared.limits.TheConstants.{MAX_MEMBERS}
pub use Rattle.pg_base.specs.declared.side.Side.{Side}
pub use Rattle.pg_cert.specs.Limits.{ArePoints, IsBody, IsClaim, IsNode, IsReply, IsTurn}
pub use Rattle.pg_cert.specs.Limits.{IsWithinLimits, node_count}
pub use Rattle.pg_cert.specs.Node.{position_of}
pub use Rattle.pg_cert.specs.OwnMove.{arrives}
pub use Rattle.pg_cert.specs.Valid.{IsValid}
pub use Rattle.pg_cert.specs.declared.cert.Cert.{Cert}
pub use Rattle.pg_cert.specs.declared.cert.Claim.{Claim}
pub use Rattle.pg_cert.specs.declared.cert.Version.TheVariants.{One}
pub use Rattle.pg_cert.specs.declared.limits.TheConstants.{MAX_CLAIM_NODES, MAX_NODES}
pub use Rattle.pg_cert.specs.declared.node.Body.{Body}
pub use Rattle.pg_cert.specs.declared.node.Body.TheVariants.{All, Cuts, Move, Over, Trees}
pub use Rattle.pg_cert.specs.declared.node.Node.{Node}
pub use Rattle.pg_cert.specs.declared.reply.Reply.{Reply}
pub use Rattle.pg_game.specs.Game.{IsGameOf, IsPosition, after, is_over, point_count, start}
pub use Rattle.pg_game.specs.Judge.{judged_move}
pub use Rattle.pg_game.specs.Position.{is_free}
pub use Rattle.pg_game.specs.declared.game.Game.{Game}
pub use Rattle.pg_game.specs.declared.position.Position.{Position}
pub use Rattle.pg_player.specs.Player.{MakesMove, Play, TakesReply, Waits, chosen_claim}
pub use Rattle.pg_text.specs.Text.{ascend_from}
pub use Rattle.std.specs.FinSet.{contains}
