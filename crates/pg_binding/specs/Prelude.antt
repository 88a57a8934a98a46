-- What the definitions of this crate name of std and of the crates below.
pub use Rattle.pg_book.specs.Books.{book_text}
pub use Rattle.pg_cert.specs.Limits.{IsWithinLimits, node_count}
pub use Rattle.pg_cert.specs.Valid.{IsValid}
pub use Rattle.pg_cert.specs.declared.cert.Cert.{Cert}
pub use Rattle.pg_drawing.specs.Due.{Finds, IsFound, IsHaltDue}
pub use Rattle.pg_drawing.specs.Runs.{IsStopped, SaysNothing}
pub use Rattle.pg_drawing.specs.declared.picturing.Telling.{Telling}
pub use Rattle.pg_evidence.specs.Evidence.{IsInnerHalt, IsWithinItsLimits, OpensEvidence}
pub use Rattle.pg_evidence.specs.Evidence.{evidence_held}
pub use Rattle.pg_evidence.specs.Standing.{HasFault, MakesStanding, RejectsEvidence, StandsFor}
pub use Rattle.pg_evidence.specs.declared.evidence.Evidence.{Evidence}
pub use Rattle.pg_families.specs.Connectivity.{OpensSpanCert, RejectsSpan, span_cert_held}
pub use Rattle.pg_families.specs.Vectors.{RejectsVectors}
pub use Rattle.pg_family_book.specs.Spans.{span_book_text}
pub use Rattle.pg_family_book.specs.Vectors.{vector_book_text}
pub use Rattle.pg_family_files.specs.SpanCertPrint.{IsWithinRanges}
pub use Rattle.pg_family_files.specs.Views.{span_entry, vector_entry}
pub use Rattle.pg_files.specs.Views.{entry}
pub use Rattle.pg_game.specs.declared.game.Game.{Game}
pub use Rattle.pg_gf2.specs.Check.{IsFirstVecFault, IsVecValid}
pub use Rattle.pg_gf2.specs.declared.flaw.VecFlaw.{VecFlaw}
pub use Rattle.pg_gf2.specs.declared.game.VecGame.{VecGame}
pub use Rattle.pg_io.specs.Console.{ConsoleTold, Grows}
pub use Rattle.pg_io.specs.Files.{Bytes, Holding, IsAbsent, ReadsOnly}
pub use Rattle.pg_io.specs.declared.stop.Stop.TheVariants.{Memory, Read, Write}
pub use Rattle.pg_layout.specs.declared.chart.Chart.{Chart}
pub use Rattle.pg_messages.specs.Statuses.{refusal_status}
pub use Rattle.pg_messages.specs.Texts.{refusal_text}
pub use Rattle.pg_messages.specs.declared.refusal.Refusal.{Refusal}
pub use Rattle.pg_messages.specs.declared.statuses.TheConstants.{DONE, FAULTY_GAME}
pub use Rattle.pg_messages.specs.declared.statuses.TheConstants.{NO_MEMORY, READ_FAILED, REFUSED}
pub use Rattle.pg_messages.specs.declared.statuses.TheConstants.{WRITE_FAILED}
pub use Rattle.pg_play_tree.specs.Tree.{IsPlayTree, has_sets}
pub use Rattle.pg_play_tree.specs.Unplayed.{IsUnplayed}
pub use Rattle.pg_span.specs.Valid.{IsFirstFlaw, IsSpanValid}
pub use Rattle.pg_span.specs.declared.cert.SpanCert.{SpanCert}
pub use Rattle.pg_span.specs.declared.flaw.SpanFlaw.{SpanFlaw}
pub use Rattle.pg_span.specs.declared.game.SpanGame.{SpanGame}
pub use Rattle.pg_talk.specs.Halts.{HaltCauses, HasCause, IsReadHalt, stop_status}
pub use Rattle.pg_talk.specs.Opening.{IsSaidBy}
pub use Rattle.pg_talk.specs.Reading.{IsLackingOne, IsLackingTwo, Opens}
pub use Rattle.pg_talk.specs.Reading.{OpensCertificate, certificate_held}
pub use Rattle.pg_talk.specs.Reading.{lacking}
pub use Rattle.pg_talk.specs.declared.halt.Halt.{Halt}
pub use Rattle.pg_talk.specs.declared.halt.Halt.TheVariants.{Refused, Stopped}
pub use Rattle.std.specs.List.{Contains}
