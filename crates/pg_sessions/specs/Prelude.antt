-- What the definitions of this crate name of std and of the crates below.
pub use Rattle.pg_base.specs.declared.kind.Kind.{Kind}
pub use Rattle.pg_base.specs.declared.kind.Kind.TheVariants.{AvoiderEnforcer, MakerBreaker}
pub use Rattle.pg_base.specs.declared.kind.Kind.TheVariants.{MakerMaker, Switching}
pub use Rattle.pg_base.specs.declared.score.Score.{Score}
pub use Rattle.pg_base.specs.declared.score.Score.TheVariants.{Draw, XWins, YWins}
pub use Rattle.pg_base.specs.declared.side.Side.{Side}
pub use Rattle.pg_base.specs.declared.side.Side.TheVariants.{X, Y}
pub use Rattle.pg_cert.specs.Limits.{IsWithinLimits}
pub use Rattle.pg_cert.specs.Node.{position_of}
pub use Rattle.pg_cert.specs.Valid.{IsFirstFault, IsNodeOf, IsValid}
pub use Rattle.pg_cert.specs.declared.cert.Cert.{Cert}
pub use Rattle.pg_cert.specs.declared.cert.Claim.{Claim}
pub use Rattle.pg_cert.specs.declared.node.Node.{Node}
pub use Rattle.pg_files.specs.Views.{entry}
pub use Rattle.pg_game.specs.Field.{field_joins, field_lines, field_points}
pub use Rattle.pg_game.specs.Fit.{is_switching}
pub use Rattle.pg_game.specs.Game.{IsGameOf, IsPosition, after, is_empty, is_filled, is_over_by}
pub use Rattle.pg_game.specs.Game.{is_touched, outcome_by, point_count, start, with_turn}
unfoldable pub use Rattle.pg_game.specs.Game.{free_points, is_over, outcome}
pub use Rattle.pg_game.specs.Judge.{judged_move}
pub use Rattle.pg_game.specs.Play.{IsLegalPlay, played}
pub use Rattle.pg_game.specs.Position.{after_with, claims_in_turn, is_free, points_of}
pub use Rattle.pg_game.specs.Value.{Forces, rules_of, value}
pub use Rattle.pg_game.specs.declared.bounds.TheConstants.{MAX_POSITIONS}
pub use Rattle.pg_game.specs.declared.field.Field.{Field}
pub use Rattle.pg_game.specs.declared.game.Game.{Game}
pub use Rattle.pg_game.specs.declared.position.Illegal.{Illegal}
pub use Rattle.pg_game.specs.declared.position.Position.{Position}
pub use Rattle.pg_io.specs.Console.{ConsoleTold, Consumes, Grows}
pub use Rattle.pg_io.specs.Files.{Bytes, FilesTold, Holding, Making, ReadsOnly}
pub use Rattle.pg_io.specs.Stop.{Causes}
pub use Rattle.pg_io.specs.declared.entry.Entry.{Entry}
pub use Rattle.pg_io.specs.declared.entry.Entry.TheVariants.{Ended, Heard, Said, Skipped}
pub use Rattle.pg_io.specs.declared.stop.Stop.{Stop}
pub use Rattle.pg_io.specs.declared.stop.Stop.TheVariants.{Memory, Read, Write}
pub use Rattle.pg_messages.specs.Texts.{lost_text, recorded_text, reply_text, reviewed_text}
pub use Rattle.pg_messages.specs.Texts.{standing_text, unknown_at_text}
pub use Rattle.pg_messages.specs.declared.message.ReplyFault.{ReplyFault}
pub use Rattle.pg_messages.specs.declared.message.ReplyFault.TheVariants.{NoNumber, NoPoint}
pub use Rattle.pg_messages.specs.declared.message.ReplyFault.TheVariants.{NothingToTakeBack, Taken}
pub use Rattle.pg_messages.specs.declared.refusal.Refusal.{Refusal}
pub use Rattle.pg_messages.specs.declared.statuses.TheConstants.{DONE, OUT_OF_REPLIES, UNKNOWN}
pub use Rattle.pg_pns.specs.Expanded.{Expanded}
pub use Rattle.pg_record.specs.Print.{printed_record}
unfoldable pub use Rattle.pg_record.specs.RecordFile.{record_of}
pub use Rattle.pg_record.specs.Replay.{IsRecord, position_after, replay, standing}
pub use Rattle.pg_record.specs.Session.{Recorded, refusal_of}
pub use Rattle.pg_record.specs.Views.{number_of}
pub use Rattle.pg_record.specs.declared.event.Event.{Event}
pub use Rattle.pg_record.specs.declared.event.Event.TheVariants.{Back, Play}
pub use Rattle.pg_record.specs.declared.event.TheConstants.{MAX_EVENTS}
pub use Rattle.pg_record.specs.declared.fault.Fault.{Fault}
pub use Rattle.pg_solve.specs.Due.{Heading, due_for_value, heading, winner}
pub use Rattle.pg_solve.specs.Left.{IsAskedLast, IsLeft, IsLeftOpen, LeavesSearch, budget}
pub use Rattle.pg_solve.specs.Solved.{IsShown, IsTrueOf, certificate_of, due}
pub use Rattle.pg_solve.specs.declared.solution.Solution.{Solution}
pub use Rattle.pg_solve.specs.declared.solution.Solution.TheVariants.{Unknown, Value}
pub use Rattle.pg_solve.specs.declared.solving.TheConstants.{MIN_POSITIONS}
pub use Rattle.pg_talk.specs.Done.{Changes, Does, Done, End, Failed, Finished, Follows, Performs}
pub use Rattle.pg_talk.specs.Done.{SaysFirst, Starved, Stops, stop_end, talk}
pub use Rattle.pg_talk.specs.Halts.{BothCauses, HaltCauses, IsGameHalt, IsWriteHalt}
pub use Rattle.pg_talk.specs.Hearing.{Hearing}
pub use Rattle.pg_talk.specs.Opening.{IsGameLacking, IsSaidBy, OpensGame, game_held}
pub use Rattle.pg_talk.specs.Reading.{IsLackingOne, IsReadAs, Opens, game_fault, held_as, lacking}
pub use Rattle.pg_talk.specs.Runs.{QuietsBy, Runs}
pub use Rattle.pg_talk.specs.Storing.{Delivers, IsCutShort, StoresAt, delivered}
pub use Rattle.pg_talk.specs.Talk.{with_left}
pub use Rattle.pg_talk.specs.declared.dialogue.TheConstants.{MAX_REFUSALS, MAX_REPLY}
pub use Rattle.pg_talk.specs.declared.halt.Halt.{Halt}
pub use Rattle.pg_talk.specs.declared.halt.Halt.TheVariants.{Refused, Stopped}
pub use Rattle.std.specs.List.{All, AllPairs, Contains, count_by, filter, list_all, list_any}
pub use Rattle.std.specs.List.{range_with_len}
pub use Rattle.std.specs.Str.{bytes_eq}
