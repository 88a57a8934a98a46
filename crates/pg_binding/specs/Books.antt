-- What the names of a game and of a certificate contain.
use Rattle.std.specs.Prelude.{Option, Result, Ok, Err}
use Rattle.pg_binding.specs.Prelude.{Bytes, Cert, Evidence, Halt, SpanCert, certificate_held}
use Rattle.pg_binding.specs.Prelude.{evidence_held, span_cert_held}
use Rattle.pg_family_files.specs.FamilyFile.{SpanEntry, VectorEntry}
use Rattle.pg_files.specs.GameFile.{Entry as GameEntry}
use Rattle.pg_drawing.specs.Boards.{AnyEntry, any_held}
use Rattle.pg_drawing.specs.Boards.AnyEntry.{Connectivity, Positional, Vectors}

-- a game with a certificate of its kind; that of a game on lines or a switching game is in either
-- form
pub data BookEntry : Type 0 where
  OfGame : GameEntry → Evidence → BookEntry
  OfSpan : SpanEntry → SpanCert → BookEntry
  OfVectors : VectorEntry → Cert → BookEntry

-- a game with its certificate, or why that is refused
abbrev pub game_pair : GameEntry → Result Evidence Halt → Result BookEntry Halt
game_pair e (Ok evidence) = Ok (OfGame e evidence)
game_pair e (Err halt) = Err halt

abbrev pub span_pair : SpanEntry → Result SpanCert Halt → Result BookEntry Halt
span_pair e (Ok cert) = Ok (OfSpan e cert)
span_pair e (Err halt) = Err halt

abbrev pub vector_pair : VectorEntry → Result Cert Halt → Result BookEntry Halt
vector_pair e (Ok cert) = Ok (OfVectors e cert)
vector_pair e (Err halt) = Err halt

-- a game with its certificate, which is read as one of the game's kind, or why the first of them is
-- refused
abbrev pub with_evidence : Result AnyEntry Halt → Option Bytes → Result BookEntry Halt
with_evidence (Err halt) bytes = Err halt
with_evidence (Ok (Positional e)) bytes = game_pair e (evidence_held bytes)
with_evidence (Ok (Connectivity e)) bytes = span_pair e (span_cert_held bytes)
with_evidence (Ok (Vectors e)) bytes = vector_pair e (certificate_held bytes)

-- what two names contain, or why the first of them is refused
abbrev pub book_held : Option Bytes → Option Bytes → Result BookEntry Halt
book_held game_bytes certificate_bytes = with_evidence (any_held game_bytes) certificate_bytes
