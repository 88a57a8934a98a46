-- What the names of a game and of a certificate contain, whatever the kind of the game.
use Rattle.std.specs.Prelude.{◌≡◌, ℕ, Bool, false, ◌==◌, if◌then◌else◌, Option, Result, Ok, Err, ⊤}
use Rattle.pg_drawing.specs.Prelude.{Bytes, FileError}
use Rattle.pg_text.specs.declared.error.FileError.TheVariants as errors
use Rattle.pg_drawing.specs.Prelude.{entry, number_of, Header, Cert, SpanCert, span_entry}
use Rattle.pg_drawing.specs.Prelude.{Certificate, certificate_held, game_fault, Evidence}
use Rattle.pg_drawing.specs.Prelude.{evidence_held, Halt, Refused, game_held}
use Rattle.pg_drawing.specs.Prelude.{span_cert_held, span_held, vector_entry, vectors_held}
use Rattle.pg_files.specs.GameFile.{Entry as GameEntry}
use Rattle.pg_family_files.specs.FamilyFile.{SpanEntry, VectorEntry}
use Rattle.pg_messages.specs.declared.refusal.Refusal.TheVariants.{Game as FaultyGame}
use Rattle.pg_cert_lines.specs.Views.{number_of as form_number}
use Rattle.pg_cert_lines.specs.declared.fault.Fault.TheVariants.{Header as FormHeader}
use Rattle.pg_evidence.specs.declared.evidence.Evidence.TheVariants.{Plain}
use Rattle.pg_drawing.specs.declared.board.Board.{Board}
use Rattle.pg_drawing.specs.declared.board.Board.TheVariants as boards

-- what is made of what was read, or why that is refused
abbrev pub read_into : {A B : Type 0} → (A → B) → Result A Halt → Result B Halt
read_into make (Ok x) = Ok (make x)
read_into make (Err halt) = Err halt

-- ---- games

-- a game as its file says it: one on lines or a switching game, a connectivity game, or one on
-- vectors
pub data AnyEntry : Type 0 where
  Positional : GameEntry → AnyEntry
  Connectivity : SpanEntry → AnyEntry
  Vectors : VectorEntry → AnyEntry

-- the number of the fault that a file doesn't begin as one of the kind that was tried
abbrev pub is_other_kind : ℕ → Bool
is_other_kind number = number == number_of Header

-- what the reader of one kind says, unless that is that the file is of another kind: then what the
-- readers of the others say
abbrev pub kind_or : {E : Type 0}
    → (E → AnyEntry)
    → Result E Halt
    → Result AnyEntry Halt
    → Result AnyEntry Halt
kind_or kind (Ok e) others = Ok (kind e)
kind_or kind (Err (Refused (FaultyGame number line))) others =
    if is_other_kind number then others else Err (game_fault number line)
kind_or kind (Err halt) others = Err halt

-- a game that isn't on lines and isn't a switching game, or why it is refused
abbrev pub family_held : Option Bytes → Result AnyEntry Halt
family_held bytes = kind_or Connectivity (span_held bytes) (read_into Vectors (vectors_held bytes))

-- the game that a name contains, or why it is refused
abbrev pub any_held : Option Bytes → Result AnyEntry Halt
any_held bytes = kind_or Positional (game_held bytes) (family_held bytes)

-- ---- certificates

-- a file doesn't begin as a certificate of plain nodes
abbrev pub begins_otherwise : Halt → Bool
begins_otherwise (Refused (Certificate number line)) = number == form_number FormHeader
begins_otherwise _ = false

-- the certificate of plain nodes, unless the file doesn't begin as one: then what it says in either
-- form
abbrev pub plain_or : Result Cert Halt → Result Evidence Halt → Result Evidence Halt
plain_or (Ok cert) evidence = Ok (Plain cert)
plain_or (Err halt) evidence = if begins_otherwise halt then evidence else Err halt

-- the certificate that a name holds, or what stands against it
abbrev pub form_held : Option Bytes → Result Evidence Halt
form_held bytes = plain_or (certificate_held bytes) (evidence_held bytes)

-- a game with a certificate of its kind; only that of a game on lines or of a switching game may
-- have images
pub data PairEntry : Type 0 where
  PositionalPair : GameEntry → Evidence → PairEntry
  ConnectivityPair : SpanEntry → SpanCert → PairEntry
  VectorsPair : VectorEntry → Cert → PairEntry

-- a game with the certificate that a name contains, read as one of its kind, or why the first of
-- them is refused
abbrev pub with_certificate : Result AnyEntry Halt → Option Bytes → Result PairEntry Halt
with_certificate (Err halt) bytes = Err halt
with_certificate (Ok (Positional e)) bytes = read_into (PositionalPair e) (form_held bytes)
with_certificate (Ok (Connectivity e)) bytes =
    read_into (ConnectivityPair e) (span_cert_held bytes)
with_certificate (Ok (Vectors e)) bytes = read_into (VectorsPair e) (certificate_held bytes)

-- the game and the certificate that two names contain, or why the first of them is refused
abbrev pub both_held : Option Bytes → Option Bytes → Result PairEntry Halt
both_held game_bytes certificate_bytes = with_certificate (any_held game_bytes) certificate_bytes

-- ---- what the code has read

-- a game of the code, as its file says it
abbrev pub any_entry : Board → AnyEntry
any_entry (boards.Positional g) = Positional (entry g)
any_entry (boards.Connectivity g) = Connectivity (span_entry g)
any_entry (boards.Vectors g) = Vectors (vector_entry g)

-- what was read of a text is what it says, unless memory ran out
abbrev pub IsBoardRead : Result Board FileError → Result AnyEntry Halt → Type 0
IsBoardRead (Ok board) says = says ≡ Ok (any_entry board)
IsBoardRead (Err (errors.Bad number line)) says = says ≡ Err (game_fault number line)
IsBoardRead (Err errors.Memory) says = ⊤
