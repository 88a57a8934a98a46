-- What the definitions of this crate name of std and of the crates below.
pub use Rattle.pg_base.specs.Side.{other}
pub use Rattle.pg_base.specs.declared.goal.Goal.{Goal}
pub use Rattle.pg_base.specs.declared.kind.Kind.{Kind}
pub use Rattle.pg_base.specs.declared.side.Side.{Side}
pub use Rattle.pg_cert.specs.declared.cert.Cert.{Cert}
unfoldable pub use Rattle.pg_cert_files.specs.CertFile.{certificate}
unfoldable pub use Rattle.pg_files.specs.GameFile.{game}
pub use Rattle.pg_files.specs.Views.{IsReadAs, entry, number_of}
pub use Rattle.pg_game.specs.Judging.{ending_by, judged_by}
pub use Rattle.pg_game.specs.Position.{is_free}
pub use Rattle.pg_game.specs.Rules.{IsPlayBy, Rules, free_below, moved, played_by, reaches}
pub use Rattle.pg_game.specs.declared.game.Game.{Game}
pub use Rattle.pg_game.specs.declared.position.Illegal.{Illegal}
pub use Rattle.pg_game.specs.declared.position.Position.{Position}
pub use Rattle.pg_io.specs.Console.{ConsoleTold, Consumes, Grows, Says, reply}
pub use Rattle.pg_io.specs.Files.{Bytes, FilesTold, Holding, Making, MayStore, ReadsOnly, Stores}
pub use Rattle.pg_io.specs.Reading.{IsFile, IsWhole, Stored}
pub use Rattle.pg_io.specs.Stop.{Causes, StopCauses}
pub use Rattle.pg_io.specs.declared.entry.Entry.{Entry}
pub use Rattle.pg_io.specs.declared.entry.Entry.TheVariants.{Ended, Heard, Said, Skipped}
pub use Rattle.pg_io.specs.declared.stop.Stop.{Stop}
pub use Rattle.pg_io.specs.declared.stop.Stop.TheVariants.{Memory, Read, Write}
pub use Rattle.pg_messages.specs.Texts.{claim_text, message_text, move_text, reply_text}
pub use Rattle.pg_messages.specs.Texts.{result_text}
pub use Rattle.pg_messages.specs.declared.message.Message.{Message}
pub use Rattle.pg_messages.specs.declared.message.ReplyFault.{ReplyFault}
pub use Rattle.pg_messages.specs.declared.message.ReplyFault.TheVariants.{NoNumber, NoPoint, Taken}
pub use Rattle.pg_messages.specs.declared.refusal.Refusal.{Refusal}
pub use Rattle.pg_messages.specs.declared.statuses.TheConstants.{DONE, INPUT_ENDED, NO_MEMORY}
pub use Rattle.pg_messages.specs.declared.statuses.TheConstants.{OUT_OF_REPLIES, READ_FAILED}
pub use Rattle.pg_messages.specs.declared.statuses.TheConstants.{WRITE_FAILED}
pub use Rattle.pg_player.specs.Player.{Play}
pub use Rattle.pg_text.specs.declared.error.FileError.{FileError}
pub use Rattle.std.specs.Str.{bytes_eq}
