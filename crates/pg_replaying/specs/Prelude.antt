-- What the definitions of this crate name of std and of the crates below.
pub use Rattle.pg_base.specs.Points.{AreBelow}
pub use Rattle.pg_drawing.specs.Boards.{AnyEntry, any_entry, any_held}
pub use Rattle.pg_drawing.specs.Boards.AnyEntry.{Connectivity, Positional, Vectors}
pub use Rattle.pg_drawing.specs.Due.{Draws, Finds, IsFound, IsHaltDue}
pub use Rattle.pg_drawing.specs.Runs.{IsStopped, SaysNothing}
pub use Rattle.pg_drawing.specs.declared.picturing.Telling.{Telling}
pub use Rattle.pg_files.specs.Views.{entry}
pub use Rattle.pg_game.specs.Game.{is_over, point_count, start}
pub use Rattle.pg_game.specs.Play.{IsLegalPlay}
pub use Rattle.pg_game.specs.declared.game.Game.{Game}
pub use Rattle.pg_io.specs.Console.{ConsoleTold, Grows}
pub use Rattle.pg_io.specs.Files.{Bytes, Holding, IsAbsent, ReadsOnly}
pub use Rattle.pg_io.specs.declared.stop.Stop.TheVariants.{Memory, Read, Write}
pub use Rattle.pg_messages.specs.Statuses.{refusal_status}
pub use Rattle.pg_messages.specs.declared.refusal.Refusal.{Refusal}
pub use Rattle.pg_messages.specs.declared.refusal.Refusal.TheVariants.{NoMeaning, Record}
pub use Rattle.pg_messages.specs.declared.statuses.TheConstants.{DONE, FAULTY_GAME, FAULTY_RECORD}
pub use Rattle.pg_messages.specs.declared.statuses.TheConstants.{NO_MEANING, NO_MEMORY}
pub use Rattle.pg_messages.specs.declared.statuses.TheConstants.{READ_FAILED, WRITE_FAILED}
unfoldable pub use Rattle.pg_record.specs.RecordFile.{record_of}
pub use Rattle.pg_record.specs.Replay.{position_after}
unfoldable pub use Rattle.pg_record.specs.Replay.{standing}
pub use Rattle.pg_record.specs.Views.{number_of}
pub use Rattle.pg_record.specs.declared.event.Event.{Event}
pub use Rattle.pg_record.specs.declared.fault.Fault.{Fault}
pub use Rattle.pg_scene.specs.Recorded.{IsSceneOfMoves}
pub use Rattle.pg_captions.specs.declared.look.Look.{Look}
pub use Rattle.pg_talk.specs.Halts.{HaltCauses, HasCause, IsGameHalt, stop_status}
pub use Rattle.pg_talk.specs.Opening.{IsSaidBy}
pub use Rattle.pg_talk.specs.Reading.{IsReadAs, Opens, held_as, lacking}
pub use Rattle.pg_talk.specs.declared.halt.Halt.{Halt}
pub use Rattle.pg_talk.specs.declared.halt.Halt.TheVariants.{Refused, Stopped}
pub use Rattle.std.specs.List.{Contains}
