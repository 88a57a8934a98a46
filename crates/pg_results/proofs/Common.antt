-- What the proofs of this crate name of std and of the crates below.
pub use Rattle.pg_results.specs.Prelude.{AllZip, AreSound, BothCauses, Bytes, Calm, Cert}
pub use Rattle.pg_results.specs.Prelude.{Certificate, Changes, Claim, ConsoleTold, Contains, Cut}
pub use Rattle.pg_results.specs.Prelude.{DONE, DifferInPosition, Done, End, Entry, FAULTY_GAME}
pub use Rattle.pg_results.specs.Prelude.{Failed, Faults, FilesTold, Finished, First, FoldsWell}
pub use Rattle.pg_results.specs.Prelude.{Follows, Forces, Game, Goal, Grows, Halt, HasCause}
pub use Rattle.pg_results.specs.Prelude.{HaveDifferentPositions, Heading, Hearing, Holding}
pub use Rattle.pg_results.specs.Prelude.{ImageCert, IsFaultless, IsFoldedWell, IsGameHalt}
pub use Rattle.pg_results.specs.Prelude.{IsImageWithinLimits, IsNothing, IsSameClaim, IsShown}
pub use Rattle.pg_results.specs.Prelude.{IsTrueOf, IsUnfoldedCert, IsValid, IsWithinLimits}
pub use Rattle.pg_results.specs.Prelude.{MAX_NODES, Memory, NO_MEMORY, NoClaim, NoMeaning, Position}
pub use Rattle.pg_results.specs.Prelude.{QuietsBy, READ_FAILED, Read, Refusal, Refused, Rejected}
pub use Rattle.pg_results.specs.Prelude.{RejectedImage, RejectedSpan, RejectedVectors, Rose, Runs}
pub use Rattle.pg_results.specs.Prelude.{Said, Short, Side, Solution, Starved, Stop, Stopped}
pub use Rattle.pg_results.specs.Prelude.{UNKNOWN, Unfolded, Unknown, Value, WRITE_FAILED, Write}
pub use Rattle.pg_results.specs.Prelude.{certificate_of, class_cut_text, class_first_mover_text}
pub use Rattle.pg_results.specs.Prelude.{class_short_text, due, ending, entry, game, game_held}
pub use Rattle.pg_results.specs.Prelude.{heading, is_class, is_switching, message_text, node_count}
pub use Rattle.pg_results.specs.Prelude.{nothing, printed_certificate, printed_image_certificate}
pub use Rattle.pg_results.specs.Prelude.{refusal_status, refusal_text, result_text, stop_end}
pub use Rattle.pg_results.specs.Prelude.{stop_status, talk, with_turn}
pub use Rattle.pg_talk.proofs.Speaking.{Grows-then}
pub use Rattle.pg_talk.proofs.Talking.{Hearing-said, Hearing-then}
pub use Rattle.std.proofs.lemmas.List.{take_more}
pub use Rattle.std.proofs.lemmas.List.Sums.{sum_by-take-le, sum_by_push}
pub use Rattle.std.proofs.lemmas.Result.{IfOk-weaker}
