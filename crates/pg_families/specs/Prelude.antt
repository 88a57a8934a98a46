-- What the definitions of this crate name of std and of the crates below.
pub use Rattle.pg_base.specs.declared.goal.Goal.{Goal}
pub use Rattle.pg_base.specs.declared.goal.Goal.TheVariants.{Draw, Win}
pub use Rattle.pg_base.specs.declared.kind.Kind.TheVariants.{MakerBreaker, Switching}
pub use Rattle.pg_base.specs.declared.limits.TheConstants.{MAX_MEMBERS}
pub use Rattle.pg_base.specs.declared.side.Side.{Side}
pub use Rattle.pg_base.specs.declared.side.Side.TheVariants.{X, Y}
pub use Rattle.pg_cert.specs.Limits.{IsWithinLimits}
pub use Rattle.pg_cert.specs.Print.{printed_certificate}
pub use Rattle.pg_cert.specs.declared.cert.Cert.{Cert}
pub use Rattle.pg_cert.specs.declared.cert.Claim.{Claim}
pub use Rattle.pg_family_files.specs.FamilyFile.{SpanEntry, VectorEntry, span_game, vector_game}
unfoldable pub use Rattle.pg_family_files.specs.FamilyFile.{whole}
unfoldable pub use Rattle.pg_family_files.specs.SpanCertFile.{span_cert}
pub use Rattle.pg_family_files.specs.SpanCertPrint.{IsSmallBody, IsWithinRanges, printed_span}
pub use Rattle.pg_family_files.specs.Views.{span_entry, vector_entry}
pub use Rattle.pg_files.specs.Views.{number_of}
pub use Rattle.pg_game.specs.Rules.{ForcesBy}
pub use Rattle.pg_game.specs.declared.position.Illegal.{Illegal}
pub use Rattle.pg_game.specs.declared.position.Position.{Position}
pub use Rattle.pg_gf2.specs.Check.{IsFirstVecFault, IsVecClaimValid, IsVecValid, flaw_number}
pub use Rattle.pg_gf2.specs.Classes.{at_turn, vector_class, vector_rules}
pub use Rattle.pg_gf2.specs.declared.flaw.VecFault.{VecFault}
pub use Rattle.pg_gf2.specs.declared.flaw.VecFlaw.{VecFlaw}
pub use Rattle.pg_gf2.specs.declared.game.VecGame.{VecGame}
pub use Rattle.pg_graph.specs.Graph.{edge_count}
pub use Rattle.pg_io.specs.Console.{ConsoleTold, Grows}
pub use Rattle.pg_io.specs.Files.{Bytes, FilesTold, Holding, IsAbsent, Making, ReadsOnly}
pub use Rattle.pg_io.specs.Stop.{Causes}
pub use Rattle.pg_io.specs.declared.entry.Entry.{Entry}
pub use Rattle.pg_io.specs.declared.entry.Entry.TheVariants.{Said}
pub use Rattle.pg_io.specs.declared.stop.Stop.TheVariants.{Memory, Write}
pub use Rattle.pg_lehman.specs.declared.class.Class.{Class}
pub use Rattle.pg_lehman.specs.declared.class.Class.TheVariants.{Cut, Short}
pub use Rattle.pg_messages.specs.Texts.{accepted_text, claim_text, class_breaker_text}
pub use Rattle.pg_messages.specs.Texts.{class_cut_text, class_first_mover_text, class_maker_text}
pub use Rattle.pg_messages.specs.Texts.{class_short_text, message_text, reply_text}
pub use Rattle.pg_messages.specs.declared.refusal.Refusal.{Refusal}
pub use Rattle.pg_messages.specs.declared.refusal.Refusal.TheVariants.{NoClaim, RejectedSpan}
pub use Rattle.pg_messages.specs.declared.refusal.Refusal.TheVariants.{RejectedVectors}
pub use Rattle.pg_messages.specs.declared.statuses.TheConstants.{DONE, FAULTY_GAME, INPUT_ENDED}
pub use Rattle.pg_messages.specs.declared.statuses.TheConstants.{NO_MEANING, NO_MEMORY}
pub use Rattle.pg_messages.specs.declared.statuses.TheConstants.{OUT_OF_REPLIES, READ_FAILED}
pub use Rattle.pg_messages.specs.declared.statuses.TheConstants.{REFUSED, WRITE_FAILED}
pub use Rattle.pg_span.specs.Game.{marks_at, span_class, span_rules_of}
pub use Rattle.pg_span.specs.Player.{AnswersInSpan, MakesSpanMove, MovesInSpan, SpanPlay}
pub use Rattle.pg_span.specs.Player.{TakesSpanReply, chosen_span_claim, span_start}
pub use Rattle.pg_span.specs.Solved.{AreDueClaims, ArePartsBelow, HavePartsBelow, named}
pub use Rattle.pg_span.specs.Valid.{IsBodyAt, IsFirstFlaw, IsSpanClaimValid, IsSpanValid}
pub use Rattle.pg_span.specs.declared.cert.SpanBody.{SpanBody}
pub use Rattle.pg_span.specs.declared.cert.SpanCert.{SpanCert}
pub use Rattle.pg_span.specs.declared.cert.SpanClaim.{SpanClaim}
pub use Rattle.pg_span.specs.declared.check.SpanFault.{SpanFault}
pub use Rattle.pg_span.specs.declared.flaw.SpanFlaw.{SpanFlaw}
pub use Rattle.pg_span.specs.declared.game.SpanGame.{SpanGame}
pub use Rattle.pg_span.specs.declared.solved.SpanClass.{SpanClass}
pub use Rattle.pg_span.specs.declared.solved.SpanClass.TheVariants.{Breaker, First, Maker}
pub use Rattle.pg_talk.specs.Contender.{Answers, Contender, MakesMove, Moves, TakesReply, at}
pub use Rattle.pg_talk.specs.Done.{Does, Done, End, Failed, Finished, Follows, Performs, Starved}
pub use Rattle.pg_talk.specs.Done.{stop_end}
pub use Rattle.pg_talk.specs.Halts.{BothCauses, HaltCauses, IsGameHalt, IsPlayEnd, IsPlayHalt}
pub use Rattle.pg_talk.specs.Halts.{IsReadHalt, IsTalkHalt, IsWriteHalt, MuteAtMemory}
pub use Rattle.pg_talk.specs.Playing.{IsPlay}
pub use Rattle.pg_talk.specs.Reading.{IsLackingOne, IsLackingTwo, IsReadAs, Opens, OpensTwo, both}
pub use Rattle.pg_talk.specs.Reading.{certificate_fault, certificate_held, game_fault, held_as}
pub use Rattle.pg_talk.specs.Reading.{lacking, or_halt}
pub use Rattle.pg_talk.specs.Runs.{QuietsBy, Runs}
pub use Rattle.pg_talk.specs.Saying.{IsCut, SaysAll, Speaks}
pub use Rattle.pg_talk.specs.Storing.{Delivers, StoresAt}
pub use Rattle.pg_talk.specs.declared.halt.Halt.{Halt}
pub use Rattle.pg_talk.specs.declared.halt.Halt.TheVariants.{Refused, Stopped}
pub use Rattle.pg_vec_player.specs.Player.{AnswersOnVectors, MakesVecMove, MovesOnVectors}
pub use Rattle.pg_vec_player.specs.Player.{TakesVecReply, VecPlay, chosen_vec_claim, plan_of_claim}
pub use Rattle.pg_vec_player.specs.Player.{vec_start}
pub use Rattle.pg_words.specs.declared.family.Family.{Family}
pub use Rattle.pg_words.specs.declared.family.Family.TheVariants.{Connectivity, Vectors}
pub use Rattle.pg_words.specs.declared.family.FamilyTask.{FamilyTask}
pub use Rattle.pg_words.specs.declared.family.FamilyTask.TheVariants.{Check, Play, Solve}
pub use Rattle.std.specs.List.{All, Contains}
