-- The values of the code, without where they lie in memory.
use Rattle.std.specs.Prelude.{ℕ, Result}
use Rattle.pg_text.specs.Faults.{IsReadAs as IsReadBy}
use Rattle.pg_text.specs.declared.error.FileError.{FileError}
use Rattle.pg_family_files.specs.SpanCertFile.{Draft}
use Rattle.pg_family_files.specs.declared.cert_draft.CertDraft.{CertDraft}
use Rattle.pg_family_files.specs.declared.cert_fault.Fault.{Fault}
use Rattle.pg_family_files.specs.declared.cert_fault.Fault.TheVariants as faults

-- what a draft in memory says
abbrev pub view : CertDraft → Draft
view d = record { due = d.due; claims = d.claims.items }

-- the number that a fault is told by
abbrev pub number_of : Fault → ℕ
number_of faults.Size = 1
number_of faults.Header = 2
number_of faults.Form = 3
number_of faults.Number = 4
number_of faults.Limit = 6

-- what the caller got is what reading gives, unless memory ran out
abbrev pub IsReadAs : {X Y : Type 0} → (X → Y) → Result X FileError → Result Y (Fault × ℕ) → Type 0
IsReadAs seen result read = IsReadBy number_of seen result read
