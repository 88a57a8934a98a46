-- What the definitions of this crate name of std and of the crates below.
pub use Rattle.pg_base.specs.Texts.{Bytes}
pub use Rattle.pg_base.specs.declared.score.Score.{Score}
pub use Rattle.pg_base.specs.declared.side.Side.{Side}
pub use Rattle.pg_game.specs.Game.{point_count}
unfoldable pub use Rattle.pg_game.specs.Game.{is_over, outcome}
pub use Rattle.pg_game.specs.Judge.{IsMadeForGame, judged_move}
pub use Rattle.pg_game.specs.declared.game.Game.{Game}
pub use Rattle.pg_game.specs.declared.position.Illegal.{Illegal}
pub use Rattle.pg_game.specs.declared.position.Position.{Position}
pub use Rattle.pg_io.specs.Console.{ConsoleTold}
pub use Rattle.pg_io.specs.Files.{FilesTold, Holding}
pub use Rattle.pg_io.specs.Stop.{Causes}
pub use Rattle.pg_io.specs.declared.entry.Entry.{Entry}
pub use Rattle.pg_io.specs.declared.entry.Entry.TheVariants.{Ended, Heard, Said, Skipped}
pub use Rattle.pg_io.specs.declared.stop.Stop.{Stop}
pub use Rattle.pg_io.specs.declared.stop.Stop.TheVariants.{Memory, Read, Write}
pub use Rattle.pg_messages.specs.Texts.{recorded_text}
pub use Rattle.pg_messages.specs.declared.message.ReplyFault.{ReplyFault}
pub use Rattle.pg_messages.specs.declared.refusal.Refusal.{Refusal}
pub use Rattle.pg_messages.specs.declared.statuses.TheConstants.{DONE}
pub use Rattle.pg_record.specs.Replay.{IsRecord, replay, standing}
pub use Rattle.pg_record.specs.Session.{Recorded, refusal_of}
pub use Rattle.pg_record.specs.declared.event.Event.{Event}
pub use Rattle.pg_record.specs.declared.event.Event.TheVariants.{Back, Play}
pub use Rattle.pg_record.specs.declared.event.TheConstants.{MAX_EVENTS}
pub use Rattle.pg_sessions.specs.Course.{Course, LeadsBy}
pub use Rattle.pg_sessions.specs.Recording.{record_file}
pub use Rattle.pg_sessions.specs.SessionLog.{reason_of, standing_count}
pub use Rattle.pg_table.specs.Board.{board_text}
pub use Rattle.pg_characters.specs.Columns.{FitsIn}
pub use Rattle.pg_table.specs.OpenLines.{lines_text}
pub use Rattle.pg_table.specs.Reply.{read_reply}
pub use Rattle.pg_table.specs.Words.{goals_text, help_text, result_text, turn_text}
pub use Rattle.pg_table.specs.declared.reply.Reply.{Reply}
pub use Rattle.pg_characters.specs.declared.shown.Look.{Look}
pub use Rattle.pg_characters.specs.declared.shown.Shown.{Shown}
pub use Rattle.pg_characters.specs.declared.shown.TheConstants.{COLUMNS}
pub use Rattle.pg_talk.specs.Done.{Changes, Does, Done, End, Failed, Finished, Follows, IsNothing}
pub use Rattle.pg_talk.specs.Done.{Starved, Stops, stop_end, talk}
pub use Rattle.pg_talk.specs.Halts.{BothCauses, IsGameHalt, IsWriteHalt}
pub use Rattle.pg_talk.specs.Opening.{IsGameLacking, IsSaidBy, OpensGame, game_held}
pub use Rattle.pg_talk.specs.Reply.{trimmed}
pub use Rattle.pg_talk.specs.Runs.{QuietsBy, Runs}
pub use Rattle.pg_talk.specs.Storing.{Delivers, StoresAt}
pub use Rattle.pg_talk.specs.Talk.{with_left}
pub use Rattle.pg_talk.specs.declared.halt.Halt.{Halt}
pub use Rattle.pg_talk.specs.declared.halt.Halt.TheVariants.{Refused, Stopped}
