-- What the first fault of a file is, in words of its lines.
use Rattle.std.specs.Prelude.{◌≡◌, ℕ, ◌+◌, ◌<◌, ◌⊎◌, ◌||◌, ◌==◌, Bool, true, false, not, nat_lt}
use Rattle.std.specs.Prelude.{nat_le, is_none, is_err, List, [], ◌∷◌, ◌++◌, length, Option, Some}
use Rattle.std.specs.Prelude.{None, Err}
use Rattle.pg_cert_files.specs.Prelude.{Bytes, number, lines, least, MAX_CLAIMS, MAX_CLAIM_NODES}
use Rattle.pg_cert_files.specs.Prelude.{MAX_NODES, has_bar, Shape, shape_of, node_of, version_of}
use Rattle.pg_cert_files.specs.Prelude.{head_of, count_of, Fault}
use Rattle.pg_cert_files.specs.declared.limits.TheConstants.{MAX_CERT_BYTES}
use Rattle.pg_cert_files.specs.CertFile.{seen, step, end_fault}
use Rattle.pg_cert_lines.specs.declared.fault.Fault.TheVariants as faults
use Rattle.pg_cert_files.specs.declared.progress.Due.{Due}
use Rattle.pg_cert_files.specs.declared.progress.Due.TheVariants as due
use Rattle.pg_cert_files.specs.declared.progress.Progress.{Progress}

-- the number of a `nodes` line, where there is one
abbrev pub counted_number : Option Bytes → Option ℕ
counted_number None = None
counted_number (Some word) = number word

-- no number, or 0
abbrev pub is_no_count : Option ℕ → Bool
is_no_count None = true
is_no_count (Some n) = n == 0

-- more nodes than a claim or a file may have
abbrev pub is_too_many : Progress → Option ℕ → Bool
is_too_many p None = false
is_too_many p (Some n) = nat_lt MAX_CLAIM_NODES n || nat_lt MAX_NODES (p.nodes + n)

-- a number's place of the line that holds no such number
abbrev pub has_wrong_number : Option Shape → Bool
has_wrong_number None = false
has_wrong_number (Some shape) = is_err (node_of shape)

-- the faults that a line can have where this one is due, each with whether it applies; what stands
-- higher counts first
abbrev pub line_faults : Due → Progress → Bytes → List (Fault × Bool)
line_faults due.Header p line = (faults.Header, is_none (version_of line)) ∷ []
line_faults due.Claim p line = (faults.Place, has_bar line) ∷ (faults.Form, is_none (head_of line))
    ∷ (faults.Limit, nat_le MAX_CLAIMS p.claims) ∷ []
line_faults (due.Count head) p line = (faults.Form, is_none (count_of line)) ∷ (
  faults.Number,
  is_no_count (counted_number (count_of line)),
) ∷ (faults.Limit, is_too_many p (counted_number (count_of line))) ∷ []
line_faults (due.Node others) p line = (faults.Place, not (has_bar line)) ∷ (
  faults.Form,
  is_none (shape_of p.version line),
) ∷ (faults.Number, has_wrong_number (shape_of p.version line)) ∷ []

-- the file is too large
pub record IsTooLarge (text : Bytes) (fault : Fault) (number : ℕ) : Type 0 where
  pub large : MAX_CERT_BYTES < length text
  pub fault_is : fault ≡ faults.Size
  pub whole_file : number ≡ 0

-- the lines before this one have no fault, and this is the first that applies to it
pub record IsFaultOfLine (text : Bytes) (fault : Fault) (number : ℕ) : Type 0 where
  pub before : List Bytes
  pub line : Bytes
  pub behind : List Bytes
  pub cut : lines text ≡ before ++ line ∷ behind
  pub place : number ≡ length before + 1
  pub sound : (seen before).fault ≡ None
  pub here : step (seen before).progress line ≡ Err fault
  pub is_least : least (line_faults (seen before).progress.due (seen before).progress line)
      ≡ Some fault

-- no line has a fault, and the file ends too early
pub record IsFaultOfEnd (text : Bytes) (fault : Fault) (number : ℕ) : Type 0 where
  pub place : number ≡ length (lines text) + 1
  pub sound : (seen (lines text)).fault ≡ None
  pub here : end_fault (seen (lines text)).progress (seen (lines text)).progress.due ≡ Some fault

-- the three ways
abbrev pub IsFirstFault : Bytes → Fault → ℕ → Type 0
IsFirstFault text fault number = IsTooLarge text fault number
    ⊎ (IsFaultOfLine text fault number ⊎ IsFaultOfEnd text fault number)
