-- What the definitions of this crate name of std and of the crates below.
pub use Rattle.pg_cert.specs.OwnMove.{arrives}
pub use Rattle.pg_cert.specs.declared.cert.Claim.{Claim}
pub use Rattle.pg_game.specs.Game.{point_count, start}
unfoldable pub use Rattle.pg_game.specs.Game.{is_over}
pub use Rattle.pg_game.specs.Judge.{judged_move}
pub use Rattle.pg_game.specs.declared.game.Game.{Game}
pub use Rattle.pg_game.specs.declared.position.Illegal.{Illegal}
pub use Rattle.pg_game.specs.declared.position.Position.{Position}
pub use Rattle.pg_player.specs.Player.{MakesMove, Play as Player, TakesReply, Waits}
pub use Rattle.pg_player.specs.Player.{chosen_claim}
pub use Rattle.pg_player.specs.Rule.{rule_of}
pub use Rattle.pg_record.specs.Replay.{IsRecord, replay}
unfoldable pub use Rattle.pg_record.specs.Replay.{standing}
pub use Rattle.pg_record.specs.declared.event.Event.{Event}
pub use Rattle.pg_record.specs.declared.event.Event.TheVariants.{Play}
pub use Rattle.pg_record.specs.declared.event.TheConstants.{MAX_EVENTS}
