-- A certificate that comes piece by piece and is gathered, of which what can't be drawn is cut
-- short.
use Rattle.std.specs.Prelude.{◌≡◌, ◌≤◌, ◌++◌, length, Option, Some, None, Result, Ok, Err, IsErrAnd}
use Rattle.std.specs.Prelude.{⊤}
use Rattle.pg_drawing.specs.Prelude.{Bytes, Holding, Cert, FileError, Halt, Refused, Stopped}
use Rattle.pg_drawing.specs.Prelude.{certificate_held}
use Rattle.pg_text.specs.declared.error.FileError.TheVariants as errors
use Rattle.pg_cert_files.specs.CertFile.{certificate}
use Rattle.pg_cert_files.specs.Gatherer.{HasGathered}
use Rattle.pg_cert_files.specs.Pieces.{size_of}
use Rattle.pg_cert_files.specs.Shortened.{AreAlike, short_cert}
use Rattle.pg_cert_lines.specs.Views.{number_of as certificate_fault_number}
use Rattle.pg_drawing.specs.declared.incoming.Incoming.{Incoming}

-- ---- while it comes

-- this text came: all of one that is like it and no longer was gathered
pub record HasCome (i : Incoming) (text : Bytes) : Type 0 where
  pub short : Bytes
  pub gathered : HasGathered i.gathering short
  pub size : i.size ≡ size_of text
  pub fewer : length short ≤ length text
  pub alike : AreAlike text short

-- some text came
pub record IsComing (i : Incoming) : Type 0 where
  pub text : Bytes
  pub come : HasCome i text

-- from the first state to the second, these bytes came
abbrev pub Comes : Incoming → Incoming → Bytes → Type 0
Comes first now bytes = (text : Bytes) → HasCome first text → HasCome now (text ++ bytes)

-- ---- what was read

-- the text says a certificate that is the same as this one when both are cut short
pub record SaysAlike (text : Bytes) (c : Cert) : Type 0 where
  pub whole : Cert
  pub says : certificate text ≡ Ok whole
  pub same : short_cert whole ≡ short_cert c

-- the certificate of a text, or its first fault, unless memory ran out
abbrev pub IsReadAlike : Result Cert FileError → Bytes → Type 0
IsReadAlike (Ok c) text = SaysAlike text c
IsReadAlike (Err (errors.Bad number line)) text = IsErrAnd (certificate text)
    (λ bad. (number ≡ certificate_fault_number bad.0) × (line ≡ bad.1))
IsReadAlike (Err errors.Memory) text = ⊤

-- a name holds a certificate that is the same as this one when both are cut short
pub record HoldsAlike (o : Option Bytes) (c : Cert) : Type 0 where
  pub whole : Cert
  pub held : certificate_held o ≡ Ok whole
  pub same : short_cert whole ≡ short_cert c

-- what a name holds, unless a call or memory has stopped it
abbrev pub IsHeldAlike : Option Bytes → Result Cert Halt → Type 0
IsHeldAlike o (Ok c) = HoldsAlike o c
IsHeldAlike o (Err (Refused refusal)) = certificate_held o ≡ Err (Refused refusal)
IsHeldAlike o (Err (Stopped stop)) = ⊤

-- the same where it is told what the names hold
abbrev pub OpensAlike : Option Holding → Bytes → Result Cert Halt → Type 0
OpensAlike None name result = ⊤
OpensAlike (Some held) name result = IsHeldAlike (held name) result
