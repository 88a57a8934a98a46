-- What the first fault of a plan is, in words of its lines.
use Rattle.std.specs.Prelude.{◌≡◌, ℕ, ◌+◌, ◌<◌, ◌⊎◌, Bool, true, false, not, List, [], ◌∷◌, ◌++◌}
use Rattle.std.specs.Prelude.{length, Result, Ok, Err, codes}
use Rattle.pg_plan.specs.Prelude.{Bytes, IsLeast, SPACE, lines, parts, reading}
use Rattle.pg_plan.specs.PlanFile.{after, is_full, place_from}
use Rattle.pg_plan.specs.Places.{names_earlier}
use Rattle.pg_plan.specs.declared.fault.Fault.{Fault}
use Rattle.pg_plan.specs.declared.fault.Fault.TheVariants as faults
use Rattle.pg_plan.specs.declared.fault.TheConstants.{MAX_PLAN_BYTES}
use Rattle.pg_plan.specs.declared.place.Place.{Place}

-- whether the fault is this one of the two that words can have
abbrev pub is_form : Result Place Fault → Bool
is_form (Err faults.Form) = true
is_form _ = false

abbrev pub is_number : Result Place Fault → Bool
is_number (Err faults.Number) = true
is_number _ = false

-- whether the position that was read names one that isn't among so many; where none was read it
-- names none
abbrev pub is_early : ℕ → Result Place Fault → Bool
is_early count (Ok p) = not (names_earlier count p)
is_early count (Err fault) = false

-- the faults that a line of these words can have behind such positions, in ascending order, each
-- with whether it applies: the words aren't of a form; a word isn't what must be there; a position
-- is named that doesn't come before; there are too many
abbrev pub line_faults : List Place → List Bytes → List (Fault × Bool)
line_faults places ws = (faults.Form, is_form (place_from ws))
    ∷ (faults.Number, is_number (place_from ws))
    ∷ (faults.Order, is_early (length places) (place_from ws))
    ∷ (faults.Limit, is_full places) ∷ []

-- the file is too large
pub record IsTooLarge (text : Bytes) (fault : Fault) (number : ℕ) : Type 0 where
  pub large : MAX_PLAN_BYTES < length text
  pub fault_is : fault ≡ faults.Size
  pub whole_file : number ≡ 0

-- there is no first line, or another
pub record IsWithoutHeader (text : Bytes) (fault : Fault) (number : ℕ) : Type 0 where
  pub other : (behind : List Bytes) → lines text ≡ codes "posgame-plan 1" ∷ behind → ⊥
  pub fault_is : fault ≡ faults.Header
  pub place : number ≡ 1

-- the lines before this one have no fault, and of those that it has this is the least
pub record IsFaultOfLine (text : Bytes) (fault : Fault) (number : ℕ) : Type 0 where
  pub before : List Bytes
  pub line : Bytes
  pub behind : List Bytes
  pub places : List Place
  pub cut : lines text ≡ codes "posgame-plan 1" ∷ (before ++ line ∷ behind)
  pub sound : reading after 2 [] before ≡ Ok places
  pub is_least : IsLeast fault (line_faults places (parts SPACE line))
  pub place : number ≡ length before + 2

-- the three ways
abbrev pub IsFirstFault : Bytes → Fault → ℕ → Type 0
IsFirstFault text fault number = IsTooLarge text fault number
    ⊎ (IsWithoutHeader text fault number ⊎ IsFaultOfLine text fault number)
