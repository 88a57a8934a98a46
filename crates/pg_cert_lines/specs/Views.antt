-- The faults' numbers, and what callers get.
use Rattle.std.specs.Prelude.{ℕ, Result}
use Rattle.pg_text.specs.Faults.{IsReadAs as IsReadBy}
use Rattle.pg_text.specs.declared.error.FileError.{FileError}
use Rattle.pg_cert_lines.specs.declared.fault.Fault.{Fault}
use Rattle.pg_cert_lines.specs.declared.fault.Fault.TheVariants as faults

-- the number of each fault
abbrev pub number_of : Fault → ℕ
number_of faults.Size = 1
number_of faults.Header = 2
number_of faults.Form = 3
number_of faults.Number = 4
number_of faults.Place = 5
number_of faults.Limit = 6

-- what the caller got is what reading gives, unless memory ran out
abbrev pub IsReadAs : {A : Type 0} → Result A FileError → Result A (Fault × ℕ) → Type 0
IsReadAs result read = IsReadBy number_of (λ a. a) result read
