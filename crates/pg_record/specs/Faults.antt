-- What the first fault of a record file is, in words of its lines.
use Rattle.std.specs.Prelude.{◌≡◌, ℕ, ◌+◌, ◌<◌, ◌==◌, ◌⊎◌, Bool, true, false, not, is_err, is_none}
use Rattle.std.specs.Prelude.{List, [], ◌∷◌, ◌++◌, length, Option, Some, None, Ok, codes}
use Rattle.pg_record.specs.Prelude.{bytes_eq, SPACE, IsLeast, reading, Bytes, lines, number, parts}
use Rattle.pg_record.specs.Prelude.{Game, judged_move}
use Rattle.pg_record.specs.declared.event.Event.{Event}
use Rattle.pg_record.specs.Replay.{replay}
use Rattle.pg_record.specs.RecordFile.{after, is_full}
use Rattle.pg_record.specs.declared.fault.Fault.{Fault}
use Rattle.pg_record.specs.declared.fault.Fault.TheVariants as faults
use Rattle.pg_record.specs.declared.fault.TheConstants.{MAX_RECORD_BYTES}

-- whether the move of this number is refused; a word without a number names none
abbrev pub is_refused : Game → List Event → Option ℕ → Bool
is_refused g events None = false
is_refused g events (Some v) = is_err (judged_move g (replay g events).position v)

-- the faults that a line of these words can have behind such events, in ascending order, each with
-- whether it applies
abbrev pub line_faults : Game → List Event → List Bytes → List (Fault × Bool)
line_faults g events [] = (faults.Form, true) ∷ []
line_faults g events (name ∷ []) = (faults.Form, not (bytes_eq name (codes "back")))
    ∷ (faults.Nothing, length (replay g events).moves == 0) ∷ (faults.Limit, is_full events) ∷ []
line_faults g events (name ∷ word ∷ []) = (faults.Form, not (bytes_eq name (codes "move"))) ∷ (
  faults.Number,
  is_none (number word),
) ∷ (faults.Move, is_refused g events (number word)) ∷ (faults.Limit, is_full events) ∷ []
line_faults g events (name ∷ word ∷ other ∷ others) = (faults.Form, true) ∷ []

-- the file is too large
pub record IsTooLarge (text : Bytes) (fault : Fault) (number : ℕ) : Type 0 where
  pub large : MAX_RECORD_BYTES < length text
  pub fault_is : fault ≡ faults.Size
  pub whole_file : number ≡ 0

-- there is no first line, or another
pub record IsWithoutHeader (text : Bytes) (fault : Fault) (number : ℕ) : Type 0 where
  pub other : (behind : List Bytes) → lines text ≡ codes "posgame-record 1" ∷ behind → ⊥
  pub fault_is : fault ≡ faults.Header
  pub place : number ≡ 1

-- the lines before this one have no fault, and of those that it has this is the least
pub record IsFaultOfLine (g : Game) (text : Bytes) (fault : Fault) (number : ℕ) : Type 0 where
  pub before : List Bytes
  pub line : Bytes
  pub behind : List Bytes
  pub events : List Event
  pub cut : lines text ≡ codes "posgame-record 1" ∷ (before ++ line ∷ behind)
  pub sound : reading (after g) 2 [] before ≡ Ok events
  pub is_least : IsLeast fault (line_faults g events (parts SPACE line))
  pub place : number ≡ length before + 2

-- the three ways
abbrev pub IsFirstFault : Game → Bytes → Fault → ℕ → Type 0
IsFirstFault g text fault number = IsTooLarge text fault number
    ⊎ (IsWithoutHeader text fault number ⊎ IsFaultOfLine g text fault number)
