-- What a reader of a certificate that comes in pieces stands for.
use Rattle.std.specs.Prelude.{◌≡◌, ℕ, ◌+◌, ◌≤◌, nat_lt, if◌then◌else◌, List, ◌++◌, length, take}
use Rattle.std.specs.Prelude.{Option, Result, Ok, Err, IsErrAnd}
use Rattle.pg_cert_files.specs.Prelude.{Bytes, FileError, IsWithinLimits, parts_of, Cert, Part}
use Rattle.pg_cert_files.specs.Prelude.{number_of}
use Rattle.pg_text.specs.declared.error.FileError.TheVariants as outcomes
use Rattle.pg_cert_files.specs.CertFile.{certificate, listed}
use Rattle.pg_cert_files.specs.Reader.{StandsFor, told}
use Rattle.pg_cert_files.specs.declared.cert_state.CertReader.{CertReader}
use Rattle.pg_cert_files.specs.declared.limits.TheConstants.{MAX_CERT_BYTES}

-- the parts that the whole lines within the limit of a file make, before the first that is faulty
abbrev pub parts_told : Bytes → List Part
parts_told text = (told (take MAX_CERT_BYTES text)).parts

-- how many bytes a text has; one more than the limit stands for all that are more
abbrev pub size_of : Bytes → ℕ
size_of text = if nat_lt MAX_CERT_BYTES (length text) then MAX_CERT_BYTES + 1 else length text

-- the reader has been fed this text
pub record IsFed (r : CertReader) (text : Bytes) : Type 0 where
  pub size : r.size ≡ size_of text
  pub lines : length text ≤ MAX_CERT_BYTES → StandsFor r.lines text

-- the text says a certificate, and these are all its parts
pub record AreAllParts (text : Bytes) (all : List Part) : Type 0 where
  pub cert : Cert
  pub read : certificate text ≡ Ok cert
  pub limits : IsWithinLimits cert
  pub parts : all ≡ parts_of cert

-- What the end of the input gives: the last part, where its line feed was lacking, and then all
-- parts have been given; or the text's fault, unless memory ran out.
abbrev pub IsEnd : Result (Option Part) FileError → Bytes → Type 0
IsEnd (Ok last) text = AreAllParts text (parts_told text ++ listed last)
IsEnd (Err outcomes.Memory) text = Unit {0}
IsEnd (Err (outcomes.Bad number line)) text =
    IsErrAnd (certificate text) (λ bad. (number ≡ number_of bad.0) × (line ≡ bad.1))
