-- What the first fault of a connectivity game's certificate is, in words of its lines.
use Rattle.std.specs.Prelude.{◌≡◌, ℕ, ◌+◌, ◌<◌, ◌⊎◌, Bool, false, not, nat_le, is_none, is_err}
use Rattle.std.specs.Prelude.{if◌then◌else◌, List, [], ◌∷◌, ◌++◌, length, Some, Ok, codes}
use Rattle.pg_family_files.specs.Prelude.{bytes_eq, SPACE, IsLeast, reading, Bytes, lines, parts}
use Rattle.pg_family_files.specs.Prelude.{MAX_CLAIMS, has_one_slash}
use Rattle.pg_family_files.specs.SpanCertFile.{Draft, nothing, after, end_fault}
use Rattle.pg_family_files.specs.SpanCertLine.{body_of, cut_first, head_of}
use Rattle.pg_family_files.specs.declared.cert_draft.Due.{Due}
use Rattle.pg_family_files.specs.declared.cert_draft.Due.TheVariants as due
use Rattle.pg_family_files.specs.declared.cert_fault.Fault.{Fault}
use Rattle.pg_family_files.specs.declared.cert_fault.Fault.TheVariants as faults
use Rattle.pg_family_files.specs.declared.cert_limits.TheConstants.{MAX_SPAN_CERT_BYTES}

-- the words have the form of a body, save for their numbers
abbrev pub has_form : List Bytes → Bool
has_form [] = false
has_form (name ∷ ws) = if bytes_eq name (codes "trees")
    then has_one_slash (cut_first ws).sets
    else bytes_eq name (codes "parts")

-- the faults that a line can have where this one is due behind so many claims, in ascending order,
-- each with whether it applies
abbrev pub line_faults : Due → ℕ → Bytes → List (Fault × Bool)
line_faults due.Header claims line =
    (faults.Header, not (bytes_eq line (codes "posgame-span-cert 1"))) ∷ []
line_faults due.Claim claims line =
    (faults.Form, is_none (head_of line)) ∷ (faults.Limit, nat_le MAX_CLAIMS claims) ∷ []
line_faults (due.Body head) claims line =
    (faults.Form, not (has_form (parts SPACE line))) ∷ (faults.Number, is_err (body_of line)) ∷ []

-- the file is too large
pub record IsTooLarge (text : Bytes) (fault : Fault) (number : ℕ) : Type 0 where
  pub large : MAX_SPAN_CERT_BYTES < length text
  pub fault_is : fault ≡ faults.Size
  pub whole_file : number ≡ 0

-- the lines before this one have no fault, and of those that it has this is the least
pub record IsFaultOfLine (text : Bytes) (fault : Fault) (number : ℕ) : Type 0 where
  pub before : List Bytes
  pub line : Bytes
  pub behind : List Bytes
  pub draft : Draft
  pub cut : lines text ≡ before ++ line ∷ behind
  pub sound : reading after 1 nothing before ≡ Ok draft
  pub is_least : IsLeast fault (line_faults draft.due (length draft.claims) line)
  pub place : number ≡ length before + 1

-- no line has a fault, and the file ends where a line is due
pub record IsFaultOfEnd (text : Bytes) (fault : Fault) (number : ℕ) : Type 0 where
  pub draft : Draft
  pub sound : reading after 1 nothing (lines text) ≡ Ok draft
  pub lacks : end_fault draft ≡ Some fault
  pub place : number ≡ length (lines text) + 1

-- the three ways
abbrev pub IsFirstFault : Bytes → Fault → ℕ → Type 0
IsFirstFault text fault number = IsTooLarge text fault number
    ⊎ (IsFaultOfLine text fault number ⊎ IsFaultOfEnd text fault number)
