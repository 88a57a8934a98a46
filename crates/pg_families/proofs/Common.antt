-- What the proofs of this crate name of std and of the crates below.
pub use Rattle.pg_families.specs.Prelude.{All, Answers, AnswersInSpan, AnswersOnVectors}
pub use Rattle.pg_families.specs.Prelude.{AreDueClaims, ArePartsBelow, Breaker, Bytes, Cert, Check}
pub use Rattle.pg_families.specs.Prelude.{Claim, Class, Connectivity, ConsoleTold, Contains}
pub use Rattle.pg_families.specs.Prelude.{Contender, Cut, DONE, Delivers, Does, Done, Draw, End}
pub use Rattle.pg_families.specs.Prelude.{Entry, Failed, Family, FamilyTask, FilesTold, Finished}
pub use Rattle.pg_families.specs.Prelude.{First, Follows, ForcesBy, Goal, Grows, Halt}
pub use Rattle.pg_families.specs.Prelude.{HavePartsBelow, Holding, Illegal, IsBodyAt, IsCut}
pub use Rattle.pg_families.specs.Prelude.{IsFirstFlaw, IsFirstVecFault, IsPlay, IsPlayHalt}
pub use Rattle.pg_families.specs.Prelude.{IsReadAs, IsSmallBody, IsSpanClaimValid, IsSpanValid}
pub use Rattle.pg_families.specs.Prelude.{IsTalkHalt, IsVecClaimValid, IsVecValid, IsWithinRanges}
pub use Rattle.pg_families.specs.Prelude.{Maker, MakesMove, MakesSpanMove, MakesVecMove, Making}
pub use Rattle.pg_families.specs.Prelude.{Memory, Moves, MovesInSpan, MovesOnVectors, NoClaim}
pub use Rattle.pg_families.specs.Prelude.{OpensTwo, Performs, Play, Position, Refusal, Refused}
pub use Rattle.pg_families.specs.Prelude.{RejectedSpan, RejectedVectors, Runs, Said, SaysAll, Short}
pub use Rattle.pg_families.specs.Prelude.{Side, Solve, SpanBody, SpanCert, SpanClaim, SpanClass}
pub use Rattle.pg_families.specs.Prelude.{SpanEntry, SpanFault, SpanFlaw, SpanGame, SpanPlay}
pub use Rattle.pg_families.specs.Prelude.{Starved, Stopped, TakesReply, TakesSpanReply}
pub use Rattle.pg_families.specs.Prelude.{TakesVecReply, VecFault, VecFlaw, VecGame, VecPlay}
pub use Rattle.pg_families.specs.Prelude.{VectorEntry, Vectors, Win, Write, X, Y, accepted_text, at}
pub use Rattle.pg_families.specs.Prelude.{at_turn, both, certificate_fault, certificate_held}
pub use Rattle.pg_families.specs.Prelude.{chosen_span_claim, chosen_vec_claim, claim_text}
pub use Rattle.pg_families.specs.Prelude.{edge_count, flaw_number, game_fault, held_as, marks_at}
pub use Rattle.pg_families.specs.Prelude.{message_text, number_of, or_halt, plan_of_claim}
pub use Rattle.pg_families.specs.Prelude.{printed_certificate, printed_span, reply_text, span_entry}
pub use Rattle.pg_families.specs.Prelude.{span_game, span_rules_of, span_start, stop_end, vec_start}
pub use Rattle.pg_families.specs.Prelude.{vector_entry, vector_game, vector_rules}
unfoldable pub use Rattle.pg_families.specs.Prelude.{span_cert, whole}
pub use Rattle.pg_talk.proofs.Delivering.{follows_more, stopped_first}
pub use Rattle.pg_talk.proofs.Openings.{cut_same, not_opened, not_opened_two, opened, opened_two}
pub use Rattle.pg_talk.proofs.Openings.{opens_whole, read_bad, read_ok}
pub use Rattle.pg_talk.proofs.Runs.{performs_more, runs_halt, runs_read, silent, talked_texts}
pub use Rattle.std.proofs.lemmas.Bool.Decides.{nat_tests}
pub use Rattle.std.proofs.lemmas.List.{append_cancel_left, take_all}
pub use Rattle.std.proofs.lemmas.List.Elements.{All-head, All-tail, All-weaker}
pub use Rattle.std.proofs.lemmas.List.Elements.{Contains-append_cases, Contains-append_left}
pub use Rattle.std.proofs.lemmas.List.Elements.{Contains-append_right}
pub use Rattle.std.proofs.lemmas.Result.{err_from_is_err_and}
