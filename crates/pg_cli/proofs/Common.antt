-- What the proofs of this crate name of std and of the crates below.
pub use Rattle.pg_cli.specs.Prelude.{ActsInFamily, AllByRecursion, AllZip, AreForcedInFamily}
pub use Rattle.pg_cli.specs.Prelude.{AreSound, AreUnfolded, AvoiderEnforcer, BothCauses, Bridge}
pub use Rattle.pg_cli.specs.Prelude.{Bytes, Calm, Cert, Certificate, Changes, Check, Claim}
pub use Rattle.pg_cli.specs.Prelude.{ClaimHead, Command, ConsoleTold, Contains, Contender, Cut}
pub use Rattle.pg_cli.specs.Prelude.{DONE, Data, Delivers, DifferInPosition, Does, Done, Draw, End}
pub use Rattle.pg_cli.specs.Prelude.{Entry, Evidence, Expanded, Failed, FamilyTask, Faults, Field}
pub use Rattle.pg_cli.specs.Prelude.{FilesTold, Finished, First, Folded, FoldsWell, Follows, Forces}
pub use Rattle.pg_cli.specs.Prelude.{Game, Gen, GivesInFamily, Goal, Graph, Grows, Halt, HasCause}
pub use Rattle.pg_cli.specs.Prelude.{HasFault, HasImageFault, HaveDifferentPositions, Heading}
pub use Rattle.pg_cli.specs.Prelude.{Holding, INPUT_ENDED, ImageCert, IsCut, IsFoldedWell}
pub use Rattle.pg_cli.specs.Prelude.{IsForcedInFamily, IsForcedInFamilyFrom, IsFound}
pub use Rattle.pg_cli.specs.Prelude.{IsImageWithinLimits, IsInnerHalt, IsLeft, IsLeftOpen}
pub use Rattle.pg_cli.specs.Prelude.{IsNothing, IsOfNames, IsPlay, IsPlayHalt, IsReached, IsSaidBy}
pub use Rattle.pg_cli.specs.Prelude.{IsSameClaim, IsShown, IsTalkHalt, IsUnfolded, IsUnfoldedCert}
pub use Rattle.pg_cli.specs.Prelude.{IsValid, IsWithinLimits, IsWriteHalt, Kind, LeavesFamilyFiles}
pub use Rattle.pg_cli.specs.Prelude.{LeavesSearch, Lines, MAX_NODES, MakerBreaker, MakerMaker}
pub use Rattle.pg_cli.specs.Prelude.{MakesStanding, Making, Members, Memory, Message, MuteAtMemory}
pub use Rattle.pg_cli.specs.Prelude.{NO_MEANING, NO_MEMORY, NoClaim, NoMeaning, OUT_OF_REPLIES}
pub use Rattle.pg_cli.specs.Prelude.{OfFamily, OpensGame, Performs, Plain, Play, Position}
pub use Rattle.pg_cli.specs.Prelude.{QuietAtReadInFamily, READ_FAILED, REFUSED, Read, ReadsOnly}
pub use Rattle.pg_cli.specs.Prelude.{Record, Records, RecordsGame, Refusal, Refused, RefusesFamily}
pub use Rattle.pg_cli.specs.Prelude.{Rejected, RejectedImage, RejectedSpan, RejectedVectors, Report}
pub use Rattle.pg_cli.specs.Prelude.{Review, ReviewsMoves, ReviewsRead, Rose, Rows, Runs, Said}
pub use Rattle.pg_cli.specs.Prelude.{SaysAtLeast, SaysFirst, Scatter, Short, ShowsValid, Side}
pub use Rattle.pg_cli.specs.Prelude.{Solution, Solve, Source, StandsFor, Starved, Stop, Stopped}
pub use Rattle.pg_cli.specs.Prelude.{Stops, Switching, UNKNOWN, Unfolded, Unknown, Value, Verdict}
pub use Rattle.pg_cli.specs.Prelude.{WRITE_FAILED, Win, Write, X, Y, accepted_text, array, behind}
pub use Rattle.pg_cli.specs.Prelude.{both, budget, certificate_of, compact_text, contender_of}
pub use Rattle.pg_cli.specs.Prelude.{delivered, ending, evidence, evidence_held, expanded_text}
pub use Rattle.pg_cli.specs.Prelude.{free_points, game, game_held, goal_word, has_float, heading}
pub use Rattle.pg_cli.specs.Prelude.{heads_of_evidence, image_head, is_claim_of, is_same_side}
pub use Rattle.pg_cli.specs.Prelude.{is_switching, is_win, is_win_of, items_have_float, items_text}
pub use Rattle.pg_cli.specs.Prelude.{kind_word, loss_texts, lost_text, meaning_of, member}
pub use Rattle.pg_cli.specs.Prelude.{members_have_float, members_text, message_text, node_count}
pub use Rattle.pg_cli.specs.Prelude.{nothing, number, object, ordered, player_of}
pub use Rattle.pg_cli.specs.Prelude.{printed_certificate, printed_image_certificate, refusal_status}
pub use Rattle.pg_cli.specs.Prelude.{refusal_text, reply_text, reviewed_text, side_word, start}
pub use Rattle.pg_cli.specs.Prelude.{statuses_in_family, stop_end, stop_status, string, talk, text}
pub use Rattle.pg_cli.specs.Prelude.{texts_of, unknown_at_text, unknown_text, unsigned, with_turn}
unfoldable pub use Rattle.pg_cli.specs.Prelude.{chosen_claim}
pub use Rattle.pg_families.proofs.Announced.{AllOther, AreOther, IsOther, accepted_forced, apart}
pub use Rattle.pg_families.proofs.Announced.{delivers_other, first_or_later, held_there, image_of}
pub use Rattle.pg_families.proofs.Announced.{none_of, one_of, one_other, others_forced, play_forced}
pub use Rattle.pg_families.proofs.Announced.{said_is, stays_other, unsaid}
pub use Rattle.pg_talk.proofs.Delivering.{follows_more, stopped_first}
pub use Rattle.pg_talk.proofs.Parts.{delivers_first, delivers_then}
pub use Rattle.pg_talk.proofs.Runs.{kept, performs_more, runs_halt, runs_read, silent, talked_texts}
pub use Rattle.pg_talk.proofs.Speaking.{Grows-nothing, Grows-then, Speaks-from_err, cut_here}
pub use Rattle.pg_talk.proofs.Speaking.{grows_more}
pub use Rattle.std.proofs.lemmas.Bool.Decides.{nat_tests}
pub use Rattle.std.proofs.lemmas.List.{append_assoc, append_cancel_left, get_or_default, take_more}
pub use Rattle.std.proofs.lemmas.List.Elements.{Contains-append_cases, Contains-append_left}
pub use Rattle.std.proofs.lemmas.List.Sums.{sum_by-take-le, sum_by_push}
pub use Rattle.std.proofs.lemmas.Result.{IfOk-weaker, err_from_is_err_and}
