-- What the proofs of this crate name of std and of the crates below.
pub use Rattle.pg_playing.specs.Prelude.{Back, Bytes, Changes, ConsoleTold, Course, DONE, Delivers}
pub use Rattle.pg_playing.specs.Prelude.{Does, Done, End, Ended, Entry, Event, Failed, FilesTold}
pub use Rattle.pg_playing.specs.Prelude.{Finished, Follows, Game, Halt, Heard, Holding, Illegal}
pub use Rattle.pg_playing.specs.Prelude.{IsMadeForGame, IsRecord, IsWriteHalt, LeadsBy, Look}
pub use Rattle.pg_playing.specs.Prelude.{MAX_EVENTS, Memory, OpensGame, Play, Position, QuietsBy}
pub use Rattle.pg_playing.specs.Prelude.{Read, Recorded, Refusal, Refused, Reply, Runs, Said}
pub use Rattle.pg_playing.specs.Prelude.{Side, Skipped, Starved, Stop, Stopped, Stops, Write}
pub use Rattle.pg_playing.specs.Prelude.{COLUMNS, FitsIn, ReplyFault, Score, Shown, board_text}
pub use Rattle.pg_playing.specs.Prelude.{game_held, goals_text, result_text, turn_text}
pub use Rattle.pg_playing.specs.Prelude.{judged_move, point_count, read_reply, reason_of}
pub use Rattle.pg_playing.specs.Prelude.{record_file, recorded_text, refusal_of, replay}
pub use Rattle.pg_playing.specs.Prelude.{standing_count, stop_end, talk, trimmed, with_left}
unfoldable pub use Rattle.pg_playing.specs.Prelude.{is_over, outcome}
pub use Rattle.pg_files.specs.Views.{entry}
pub use Rattle.pg_io.specs.Console.{Grows}
pub use Rattle.pg_game.proofs.Limits.{point_count-le}
pub use Rattle.pg_record.proofs.Standing.{record-more}
pub use Rattle.pg_sessions.proofs.Courses.{course_heard, course_nothing, course_said, course_then}
pub use Rattle.pg_talk.proofs.Delivering.{stopped_first}
pub use Rattle.pg_talk.proofs.Openings.{not_opened, opened}
pub use Rattle.pg_talk.proofs.Parts.{hears_then}
pub use Rattle.pg_talk.proofs.Runs.{kept, runs_halt, silent}
pub use Rattle.pg_talk.proofs.Speaking.{Grows-then}
pub use Rattle.std.proofs.lemmas.Bool.{ltb-true}
pub use Rattle.std.proofs.lemmas.Bool.Decides.{nat_tests}
pub use Rattle.std.proofs.lemmas.List.{length_push}
pub use Rattle.std.proofs.lemmas.Result.{err_from_is_err_and}
