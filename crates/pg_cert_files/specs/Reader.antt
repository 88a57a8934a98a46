-- What a reader that is fed in pieces stands for.
use Rattle.std.specs.Prelude.{◌≡◌, ℕ, List, ◌++◌, Option, Some, None, Result, Ok, Err, IfNone}
use Rattle.pg_cert_files.specs.Prelude.{Bytes, FileError, number_of, Fault}
use Rattle.pg_cert_files.specs.Lines.{cut}
use Rattle.pg_cert_files.specs.CertFile.{Seen, seen, listed}
use Rattle.pg_text.specs.declared.error.FileError.TheVariants as outcomes
use Rattle.pg_cert.specs.declared.part.Part.{Part}
use Rattle.pg_cert_files.specs.declared.reader.LineReader.{LineReader}

-- what the whole lines of a text have said
abbrev pub told : Bytes → Seen
told text = seen (cut text).whole

-- the reader has been fed this text
pub record StandsFor (r : LineReader) (text : Bytes) : Type 0 where
  pub progress : IfNone r.fault ((told text).progress ≡ r.progress)
  pub count : (told text).count ≡ r.count
  pub fault : (told text).fault ≡ r.fault
  pub pending : IfNone r.fault (r.pending.items ≡ (cut text).rest)

-- the fault, with its number and line
abbrev pub IsBad : ℕ → ℕ → Option (Fault × ℕ) → Type 0
IsBad number line None = ⊥
IsBad number line (Some bad) = (number ≡ number_of bad.0) × (line ≡ bad.1)

-- what the end of the lines gives: the fault, or the last part, unless memory ran out
abbrev pub IsLinesEnd : Result (Option Part) FileError
    → Option (Fault × ℕ)
    → List Part
    → List Part
    → Type 0
IsLinesEnd (Ok part) fault all before = (fault ≡ None) × (all ≡ before ++ listed part)
IsLinesEnd (Err outcomes.Memory) fault all before = Unit {0}
IsLinesEnd (Err (outcomes.Bad number line)) fault all before = IsBad number line fault
