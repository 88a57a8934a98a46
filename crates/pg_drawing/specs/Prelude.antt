-- What the definitions of this crate name of std and of the crates below.
pub use Rattle.pg_cert.specs.Limits.{IsWithinLimits}
pub use Rattle.pg_cert.specs.Valid.{IsFirstFault, IsValid}
pub use Rattle.pg_cert.specs.declared.cert.Cert.{Cert}
pub use Rattle.pg_evidence.specs.Evidence.{IsInnerHalt, IsWithinItsLimits, OpensEvidence}
pub use Rattle.pg_evidence.specs.Evidence.{evidence_held}
pub use Rattle.pg_evidence.specs.Standing.{IsTraced, MakesStanding, RejectsImages, StandsFor}
pub use Rattle.pg_evidence.specs.declared.evidence.Evidence.{Evidence}
pub use Rattle.pg_evidence.specs.declared.standing.Standing.{Standing}
pub use Rattle.pg_families.specs.Connectivity.{OpensSpanCert, span_cert_held, span_held}
pub use Rattle.pg_families.specs.Vectors.{vectors_held}
pub use Rattle.pg_family_files.specs.Views.{span_entry, vector_entry}
pub use Rattle.pg_files.specs.Views.{entry, number_of}
pub use Rattle.pg_files.specs.declared.fault.Fault.TheVariants.{Header, Size}
pub use Rattle.pg_game.specs.declared.game.Game.{Game}
pub use Rattle.pg_gf2.specs.Check.{IsFirstVecFault, IsVecValid}
pub use Rattle.pg_gf2.specs.declared.game.VecGame.{VecGame}
pub use Rattle.pg_io.specs.Console.{ConsoleTold, Grows}
pub use Rattle.pg_io.specs.Files.{Bytes, Holding, IsAbsent, ReadsOnly}
pub use Rattle.pg_io.specs.declared.stop.Stop.TheVariants.{Memory, Read, Write}
pub use Rattle.pg_messages.specs.Statuses.{refusal_status}
pub use Rattle.pg_messages.specs.declared.refusal.Refusal.{Refusal}
pub use Rattle.pg_messages.specs.declared.refusal.Refusal.TheVariants.{Certificate, NoClaim}
pub use Rattle.pg_messages.specs.declared.refusal.Refusal.TheVariants.{NoMeaning, Record, Rejected}
pub use Rattle.pg_messages.specs.declared.refusal.Refusal.TheVariants.{RejectedImage, RejectedSpan}
pub use Rattle.pg_messages.specs.declared.refusal.Refusal.TheVariants.{RejectedVectors}
pub use Rattle.pg_messages.specs.declared.statuses.TheConstants.{DONE, FAULTY_GAME, NO_MEANING}
pub use Rattle.pg_messages.specs.declared.statuses.TheConstants.{NO_MEMORY, READ_FAILED, REFUSED}
pub use Rattle.pg_messages.specs.declared.statuses.TheConstants.{WRITE_FAILED}
pub use Rattle.pg_scene.specs.Scenes.{IsSceneOfGame, IsSceneOfNode, LacksNode}
pub use Rattle.pg_span.specs.Valid.{IsFirstFlaw, IsSpanValid}
pub use Rattle.pg_span.specs.declared.cert.SpanCert.{SpanCert}
pub use Rattle.pg_span.specs.declared.game.SpanGame.{SpanGame}
pub use Rattle.pg_talk.specs.Halts.{HaltCauses, HasCause, IsGameHalt, IsReadHalt, stop_status}
pub use Rattle.pg_talk.specs.Opening.{IsSaidBy, game_held}
pub use Rattle.pg_talk.specs.Reading.{IsLackingOne, IsLackingTwo, IsReadAs, Opens}
pub use Rattle.pg_talk.specs.Reading.{OpensCertificate, certificate_held, game_fault, held_as}
pub use Rattle.pg_talk.specs.declared.halt.Halt.{Halt}
pub use Rattle.pg_talk.specs.declared.halt.Halt.TheVariants.{Refused, Stopped}
pub use Rattle.pg_text.specs.declared.error.FileError.{FileError}
pub use Rattle.std.specs.List.{Contains}
