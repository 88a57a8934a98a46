-- What the proofs of this crate name of the crates below.
pub use Rattle.pg_binding.specs.Prelude.{Bytes, Cert, Chart, ConsoleTold, Contains, DONE, Evidence}
pub use Rattle.pg_binding.specs.Prelude.{Finds, Game, Halt, HaltCauses, HasFault, Holding}
pub use Rattle.pg_binding.specs.Prelude.{IsAbsent, IsFirstFlaw, IsFirstVecFault, IsFound}
pub use Rattle.pg_binding.specs.Prelude.{IsInnerHalt, IsLackingOne, IsReadHalt}
pub use Rattle.pg_binding.specs.Prelude.{IsSpanValid, IsValid, IsVecValid, MakesStanding, Memory}
pub use Rattle.pg_binding.specs.Prelude.{Opens, OpensCertificate, OpensEvidence, OpensSpanCert}
pub use Rattle.pg_binding.specs.Prelude.{Read, Refusal, Refused, SpanCert, SpanFlaw}
pub use Rattle.pg_binding.specs.Prelude.{SpanGame, StandsFor, Stopped, Telling, VecFlaw, VecGame}
pub use Rattle.pg_binding.specs.Prelude.{WRITE_FAILED, Write, book_text, certificate_held, entry}
pub use Rattle.pg_binding.specs.Prelude.{IsPlayTree, has_sets, node_count}
pub use Rattle.pg_binding.specs.Prelude.{evidence_held, refusal_status}
pub use Rattle.pg_binding.specs.Prelude.{span_book_text, span_cert_held, span_entry, stop_status}
pub use Rattle.pg_binding.specs.Prelude.{vector_book_text, vector_entry}
