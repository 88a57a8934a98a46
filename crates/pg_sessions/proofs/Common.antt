-- What the proofs of this crate name of std and of the crates below.
pub use Rattle.pg_sessions.specs.Prelude.{All, AllPairs, AvoiderEnforcer, Back, BothCauses, Bytes}
pub use Rattle.pg_sessions.specs.Prelude.{Cert, Changes, Claim, ConsoleTold, Consumes, Contains}
pub use Rattle.pg_sessions.specs.Prelude.{DONE, Delivers, Does, Done, Draw, End, Ended, Entry}
pub use Rattle.pg_sessions.specs.Prelude.{Event, Expanded, Failed, Fault, Field, FilesTold}
pub use Rattle.pg_sessions.specs.Prelude.{Finished, Follows, Forces, Game, Grows, Halt, HaltCauses}
pub use Rattle.pg_sessions.specs.Prelude.{Heading, Heard, Hearing, Holding, Illegal, IsCutShort}
pub use Rattle.pg_sessions.specs.Prelude.{IsFirstFault, IsLackingOne, IsLeft, IsLeftOpen}
pub use Rattle.pg_sessions.specs.Prelude.{IsLegalPlay, IsNodeOf, IsPosition, IsReadAs, IsRecord}
pub use Rattle.pg_sessions.specs.Prelude.{IsShown, IsTrueOf, IsValid, IsWithinLimits, IsWriteHalt}
pub use Rattle.pg_sessions.specs.Prelude.{Kind, LeavesSearch, MAX_EVENTS, MAX_REFUSALS, MAX_REPLY}
pub use Rattle.pg_sessions.specs.Prelude.{MakerBreaker, MakerMaker, Memory, NoNumber, NoPoint, Node}
pub use Rattle.pg_sessions.specs.Prelude.{NothingToTakeBack, OUT_OF_REPLIES, Opens, OpensGame}
pub use Rattle.pg_sessions.specs.Prelude.{Performs, Play, Position, QuietsBy, Read, Recorded}
pub use Rattle.pg_sessions.specs.Prelude.{Refusal, Refused, ReplyFault, Runs, Said, SaysFirst}
pub use Rattle.pg_sessions.specs.Prelude.{Score, Side, Skipped, Solution, Starved, Stop, Stopped}
pub use Rattle.pg_sessions.specs.Prelude.{Stops, Switching, Taken, UNKNOWN, Unknown, Value, Write}
pub use Rattle.pg_sessions.specs.Prelude.{X, XWins, Y, YWins, after, after_with, budget}
pub use Rattle.pg_sessions.specs.Prelude.{certificate_of, claims_in_turn, count_by, delivered, due}
pub use Rattle.pg_sessions.specs.Prelude.{due_for_value, entry, field_joins, field_lines}
pub use Rattle.pg_sessions.specs.Prelude.{field_points, filter, game_held, heading, held_as}
pub use Rattle.pg_sessions.specs.Prelude.{is_empty, is_filled, is_free, is_over_by, is_switching}
pub use Rattle.pg_sessions.specs.Prelude.{is_touched, judged_move, lacking, list_all, list_any}
pub use Rattle.pg_sessions.specs.Prelude.{lost_text, number_of, outcome_by, played, point_count}
pub use Rattle.pg_sessions.specs.Prelude.{points_of, position_after, position_of, range_with_len}
pub use Rattle.pg_sessions.specs.Prelude.{recorded_text, refusal_of, replay, reply_text}
pub use Rattle.pg_sessions.specs.Prelude.{reviewed_text, rules_of, standing_text, start, stop_end}
pub use Rattle.pg_sessions.specs.Prelude.{talk, unknown_at_text, value, winner, with_left}
pub use Rattle.pg_sessions.specs.Prelude.{with_turn}
unfoldable pub use Rattle.pg_sessions.specs.Prelude.{free_points, is_over, outcome, record_of}
pub use Rattle.pg_game.proofs.Limits.{point_count-le}
pub use Rattle.pg_game.proofs.Moves.{IsPosition-after, IsPosition-played, IsPosition-start}
pub use Rattle.pg_record.proofs.Standing.{few-standing, legal-first, legal-standing, played-more}
pub use Rattle.pg_record.proofs.Standing.{record-more}
pub use Rattle.pg_talk.proofs.Delivering.{stopped_first}
pub use Rattle.pg_talk.proofs.Openings.{cut_same, not_opened, opened, opens_whole}
pub use Rattle.pg_talk.proofs.Runs.{kept, performs_more, runs_halt, runs_read, talked_texts}
pub use Rattle.pg_talk.proofs.Speaking.{Grows-nothing, Grows-then}
pub use Rattle.std.proofs.lemmas.Bool.{cases_Bool, cases_order, false≢true, le-ltb, ltb-true}
pub use Rattle.std.proofs.lemmas.Bool.Decides.{nat_tests}
pub use Rattle.std.proofs.lemmas.List.{append-nil, length-take-le, length_push, map-append}
pub use Rattle.std.proofs.lemmas.List.{take-append-drop, take-take, take_all, take_more}
pub use Rattle.std.proofs.lemmas.List.Elements.{All-more, Contains-append_cases}
pub use Rattle.std.proofs.lemmas.List.Elements.{Contains-append_left, Contains-append_right}
pub use Rattle.std.proofs.lemmas.Option.{none-some, slice_get-get_or, slice_get_within}
pub use Rattle.std.proofs.lemmas.Result.{err_from_is_err_and}
