-- What the first fault of a file of version 3 is, in words of its lines.
use Rattle.std.specs.Prelude.{◌≡◌, ℕ, ◌+◌, ◌⊎◌, Bool, not, is_none, is_err, List, [], ◌∷◌, ◌++◌}
use Rattle.std.specs.Prelude.{length, Option, Some, None, Ok}
use Rattle.pg_image.specs.Prelude.{bytes_eq, IsLeast, reading, Bytes, lines, end_fault, Fault}
use Rattle.pg_cert_files.specs.FirstFault.{line_faults as version_2_faults, IsTooLarge}
use Rattle.pg_cert_lines.specs.declared.fault.Fault.TheVariants as faults
use Rattle.pg_cert_files.specs.declared.progress.Due.{Due}
use Rattle.pg_cert_files.specs.declared.progress.Due.TheVariants as due
use Rattle.pg_cert_files.specs.declared.progress.Progress.{Progress}
use Rattle.pg_image.specs.Print.{image_header}
use Rattle.pg_image.specs.ImageFile.{Draft, nothing, after}
use Rattle.pg_image.specs.ImageLine.{ImageLine, image_line, move_shape, image_said}

-- the faults of a node's line: an image may lack the form of one, or have a wrong number; any other
-- line is one of version 2
abbrev pub node_faults : ℕ → Progress → Bytes → Option ImageLine → List (Fault × Bool)
node_faults others p line None = version_2_faults (due.Node others) p line
node_faults others p line (Some l) =
    (faults.Form, is_none (move_shape l)) ∷ (faults.Number, is_err (image_said l)) ∷ []

-- the faults that a line can have where this one is due, each with whether it applies; what stands
-- higher counts first
abbrev pub line_faults : Due → Progress → Bytes → List (Fault × Bool)
line_faults due.Header p line = (faults.Header, not (bytes_eq line image_header)) ∷ []
line_faults due.Claim p line = version_2_faults due.Claim p line
line_faults (due.Count head) p line = version_2_faults (due.Count head) p line
line_faults (due.Node others) p line = node_faults others p line (image_line line)

-- the lines before this one have no fault, and of those that it has this counts first
pub record IsFaultOfLine (text : Bytes) (fault : Fault) (number : ℕ) : Type 0 where
  pub before : List Bytes
  pub line : Bytes
  pub behind : List Bytes
  pub draft : Draft
  pub cut : lines text ≡ before ++ line ∷ behind
  pub sound : reading after 1 nothing before ≡ Ok draft
  pub is_least : IsLeast fault (line_faults draft.progress.due draft.progress line)
  pub place : number ≡ length before + 1

-- no line has a fault, and the file ends too early
pub record IsFaultOfEnd (text : Bytes) (fault : Fault) (number : ℕ) : Type 0 where
  pub draft : Draft
  pub sound : reading after 1 nothing (lines text) ≡ Ok draft
  pub lacks : end_fault draft.progress draft.progress.due ≡ Some fault
  pub place : number ≡ length (lines text) + 1

-- the three ways
abbrev pub IsFirstFault : Bytes → Fault → ℕ → Type 0
IsFirstFault text fault number = IsTooLarge text fault number
    ⊎ (IsFaultOfLine text fault number ⊎ IsFaultOfEnd text fault number)
