-- What the proofs of this crate name of the crates below.
pub use Rattle.pg_drawing.specs.Prelude.{Bytes, Cert, Certificate, ConsoleTold, Contains, DONE}
pub use Rattle.pg_drawing.specs.Prelude.{Evidence, FileError, Game, Halt, HaltCauses, Holding}
pub use Rattle.pg_drawing.specs.Prelude.{IsInnerHalt, IsReadAs, IsReadHalt, IsWithinLimits}
pub use Rattle.pg_drawing.specs.Prelude.{MakesStanding, Memory, NO_MEANING, NoClaim, NoMeaning}
pub use Rattle.pg_drawing.specs.Prelude.{Opens, OpensCertificate, OpensEvidence, OpensSpanCert}
pub use Rattle.pg_drawing.specs.Prelude.{REFUSED, Read, Record, VecGame, vector_entry}
pub use Rattle.pg_drawing.specs.Prelude.{Refused, Rejected, RejectedImage, RejectedSpan}
pub use Rattle.pg_drawing.specs.Prelude.{RejectedVectors, Size, SpanCert, SpanGame, Stopped}
pub use Rattle.pg_drawing.specs.Prelude.{WRITE_FAILED, Write, certificate_held, entry}
pub use Rattle.pg_drawing.specs.Prelude.{evidence_held, game_fault, held_as, refusal_status}
pub use Rattle.pg_drawing.specs.Prelude.{span_entry, stop_status}
