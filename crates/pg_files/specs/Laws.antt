-- What a fault of a file means, above the definition of reading.
use Rattle.std.specs.Prelude.{◌≡◌, ℕ, ◌+◌, ◌<◌, Bool, true, false, not, ◌||◌, ◌⊎◌, if◌then◌else◌}
use Rattle.std.specs.Prelude.{List, [], ◌∷◌, ◌++◌, length, Option, Some, None, is_none, Ok, ◌==◌}
use Rattle.pg_files.specs.Prelude.{list_all, Bytes, lines, words, reading, IsLeast}
use Rattle.pg_files.specs.declared.limits.TheConstants.{MAX_GAME_BYTES}
use Rattle.pg_files.specs.Key.{key_of}
use Rattle.pg_files.specs.GameFile.{Draft, nothing, after, keyed_faults, first, rest, is_header}
use Rattle.pg_files.specs.GameFile.{is_printable, begins_comment}
use Rattle.pg_files.specs.declared.fault.Fault.{Fault}
use Rattle.pg_files.specs.declared.fault.Fault.TheVariants as faults
use Rattle.pg_files.specs.declared.key.Key.{Key}

-- the faults that a line can have whose first word stands for this key
abbrev pub named_faults : Draft → Option Key → List Bytes → List (Fault × Bool)
named_faults d None arguments = []
named_faults d (Some key) arguments = keyed_faults d key arguments

-- the faults that a line of these words can have
abbrev pub words_faults : Draft → List Bytes → List (Fault × Bool)
words_faults d ws = if d.begun
    then (faults.Key, is_none (key_of (first ws))) ∷ named_faults d (key_of (first ws)) (rest ws)
    else (faults.Header, not (is_header ws)) ∷ []

-- the faults that a line can have, in ascending order, each with whether it applies
abbrev pub line_faults : Draft → Bytes → List (Fault × Bool)
line_faults d line = (faults.Bytes, not (list_all is_printable line))
    ∷ (if begins_comment line || length (words line) == 0 then [] else words_faults d (words line))

-- the lines before this one have no fault, and it has this one as its least
pub record IsFirstFault (text : Bytes) (fault : Fault) (number : ℕ) : Type 0 where
  pub before : List Bytes
  pub line : Bytes
  pub behind : List Bytes
  pub draft : Draft
  pub cut : lines text ≡ before ++ line ∷ behind
  pub sound : reading after 1 nothing before ≡ Ok draft
  pub least : IsLeast fault (line_faults draft line)
  pub counted : number ≡ length before + 1

-- what is told where no line has a fault: that there is no significant line, or else that the turn
-- lacks
abbrev pub Lacks : Draft → Fault → Type 0
Lacks draft fault = ((draft.begun ≡ false) × (fault ≡ faults.Header))
    ⊎ ((draft.begun ≡ true) × (draft.turn ≡ None) × (fault ≡ faults.Ends))

-- no line has a fault, and at the end something lacks
pub record IsFaultOfEnd (text : Bytes) (fault : Fault) : Type 0 where
  pub draft : Draft
  pub sound : reading after 1 nothing (lines text) ≡ Ok draft
  pub lacks : Lacks draft fault

-- the text is too long, or no line has a fault and something lacks
pub record IsWholeFault (text : Bytes) (fault : Fault) : Type 0 where
  pub why : ((MAX_GAME_BYTES < length text) × (fault ≡ faults.Size)) ⊎ IsFaultOfEnd text fault
