-- What the definitions of this crate name of std and of the crates below.
pub use Rattle.pg_base.specs.Points.{AreBelow, ShareNone}
pub use Rattle.pg_base.specs.declared.goal.Goal.TheVariants.{Win}
pub use Rattle.pg_base.specs.declared.kind.Kind.TheVariants.{MakerBreaker}
pub use Rattle.pg_base.specs.declared.limits.TheConstants.{MAX_MEMBERS}
pub use Rattle.pg_cert.specs.Limits.{IsBody, IsClaim, IsNode, IsOfVersion, IsPair, IsReply}
pub use Rattle.pg_cert.specs.Limits.{has_body}
pub use Rattle.pg_cert.specs.declared.cert.Claim.{Claim}
pub use Rattle.pg_cert.specs.declared.cert.Version.TheVariants.{Two}
pub use Rattle.pg_cert.specs.declared.limits.TheConstants.{MAX_CLAIM_NODES}
pub use Rattle.pg_cert.specs.declared.node.Body.{Body}
pub use Rattle.pg_cert.specs.declared.node.Node.{Node}
pub use Rattle.pg_cert.specs.declared.reply.Reply.{Reply}
pub use Rattle.pg_dfpn.specs.declared.settling.Settled.{Settled}
pub use Rattle.pg_game.specs.Decided.{claimer}
pub use Rattle.pg_game.specs.declared.game.Game.{Game}
pub use Rattle.pg_text.specs.Text.{ascend_from}
pub use Rattle.std.specs.List.{All}
