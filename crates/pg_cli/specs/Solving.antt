-- What solving stores and says.
use Rattle.std.specs.Prelude.{◌≡◌, ◌≢◌, ◌⊎◌, ◌&&◌, ℕ, nat_le, Bool, true, false, if◌then◌else◌}
use Rattle.std.specs.Prelude.{List, [], ◌∷◌, length, map, Option, Some, None, Result, Ok, Err}
use Rattle.pg_cli.specs.Prelude.{Kind, Switching, Bytes, Said, is_switching, MAX_POSITIONS, Game}
use Rattle.pg_cli.specs.Prelude.{IsWithinLimits, node_count, printed_certificate, IsValid, Cert}
use Rattle.pg_cli.specs.Prelude.{FoldsWell, IsFoldedWell, IsImageWithinLimits}
use Rattle.pg_cli.specs.Prelude.{printed_image_certificate, ImageCert, IsFaultless, IsUnfoldedCert}
use Rattle.pg_cli.specs.Prelude.{Unfolded, Expanded, heading, budget, IsAskedLast, IsLeft}
use Rattle.pg_cli.specs.Prelude.{IsLeftOpen, certificate_of, due, is_class, IsTrueOf, IsShown}
use Rattle.pg_cli.specs.Prelude.{Short, Cut, First, Solution, Value, Unknown, MIN_POSITIONS}
use Rattle.pg_cli.specs.Prelude.{class_short_text, class_cut_text, class_first_mover_text}
use Rattle.pg_cli.specs.Prelude.{expanded_text, message_text, result_text, unknown_text, Message}
use Rattle.pg_cli.specs.Prelude.{DONE, UNKNOWN, Done, End, Finished, Failed, Starved, IsSaidBy}
use Rattle.pg_cli.specs.Prelude.{Delivers, Halt}
use Rattle.pg_files.specs.GameFile.{Entry as GameEntry}
use Rattle.pg_cert.specs.declared.cert.Version.TheVariants.{One}
use Rattle.pg_solve.specs.declared.solution.Class.{Class}
use Rattle.pg_solve.specs.declared.solution.Solution.TheVariants.{Class as ForClass}
use Rattle.pg_cli.specs.declared.solving.TheConstants.{DEFAULT_POSITIONS}
use Rattle.pg_results.specs.Results.{IsFileOf, Shows, solution_text}

-- how many positions may be expanded: as many as are asked for, where they may be, and as usual
-- where none are said
abbrev pub positions_for : Option ℕ → Option ℕ
positions_for None = Some DEFAULT_POSITIONS
positions_for (Some n) = if nat_le MIN_POSITIONS n && nat_le n MAX_POSITIONS then Some n else None

-- what is said of what was found and of the certificate that shows it
abbrev pub Told : Type 0
Told = Solution → Cert → List Bytes

-- the result is said
abbrev pub result_alone : Game → Told
result_alone g solution c = solution_text g solution ∷ []

-- the result is said, and then how many positions were expanded and how many nodes the certificate
-- has
abbrev pub result_and_counts : Game → Expanded → Told
result_and_counts g work solution c =
    solution_text g solution ∷ expanded_text (length work.positions) (node_count c.claims) ∷ []

-- the work holds the question that was asked last of a game on lines, and by the rules the
-- positions expanded for it, by which the certificate shows what was found; a class is shown by
-- sets of edges
pub record IsLeftBehind (g : Game) (positions : ℕ) (work : Expanded)
    (solution : Solution) : Type 0 where
  pub last : IsAskedLast g.kind work.question solution
  pub left : g.kind ≢ Switching → IsLeft g (budget g positions) work
  pub shown : IsShown g (budget g positions) work.positions solution

-- the question that was asked last of a game on lines is open after as many positions as the budget
-- allows, and that is said
pub record StaysOpen (g : Game) (positions : ℕ) (work : Expanded) (done : Done)
    (status : ℕ) : Type 0 where
  pub on_lines : is_switching g.kind ≡ false
  pub left_open : IsLeftOpen g (budget g positions) work
  pub said : done.entries ≡ Said (unknown_text (budget g positions)) ∷ []
  pub stored : done.stored ≡ []
  pub status_is : status ≡ UNKNOWN

-- a certificate that shows what was found is stored under the name as its file, and then what was
-- found is said
abbrev pub DeliversSolution : Bool → Told → Game → Bytes → ℕ → Expanded → Done → End → Type 0
DeliversSolution images told g name positions work done end =
    (solution : Solution) × (c : Cert) × Shows g solution c
    × IsLeftBehind g positions work solution
    × (text : Bytes) × IsFileOf images g c text
    × Delivers (name, text) (told solution c) done end

-- what solving a game does, with images or without
abbrev pub SolvesGame : Bool → Told → Game → Bytes → ℕ → Expanded → Done → End → Type 0
SolvesGame images told g name positions work done (Finished status) =
    StaysOpen g positions work done status
    ⊎ DeliversSolution images told g name positions work done (Finished status)
SolvesGame images told g name positions work done Failed =
    DeliversSolution images told g name positions work done Failed
SolvesGame images told g name positions work done Starved = ⊥

-- the same of what was read
abbrev pub Solves : Bool → Result GameEntry Halt → Bytes → ℕ → Expanded → Done → End → Type 0
Solves images (Err halt) name positions work done end = ⊥
Solves images (Ok e) name positions work done end =
    (g : Game) × IsSaidBy e g × SolvesGame images (result_alone g) g name positions work done end

-- ---- the code that solves

-- the message of what was found, and the certificate that shows it; none where the question stays
-- open
abbrev pub IsFound : Game → ℕ → Expanded → Option (Message × Cert) → Type 0
IsFound g positions work None =
    (is_switching g.kind ≡ false) × IsLeftOpen g (budget g positions) work
IsFound g positions work (Some found) = (solution : Solution) × Shows g solution found.1
    × IsLeftBehind g positions work solution
    × (message_text found.0 ≡ solution_text g solution)

-- how solving a game ends: only a game on lines may stay open
abbrev pub IsSolveEnd : Kind → ℕ → Type 0
IsSolveEnd kind status = (status ≡ DONE) ⊎ ((is_switching kind ≡ false) × (status ≡ UNKNOWN))
