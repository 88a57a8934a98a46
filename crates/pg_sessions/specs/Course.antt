-- Logs by rules: how entries lead from one stage to another. It is asked neither what the stages
-- are nor what the rules say.
use Rattle.std.specs.Prelude.{◌≡◌, List, [], ◌∷◌, Option, Result, Ok, Err}
use Rattle.pg_sessions.specs.Prelude.{ConsoleTold, Grows, Bytes, Entry, Stop, Hearing, with_left}

-- by rules that say which entry may come next and where it leads, the entries lead from one stage
-- to another
abbrev pub LeadsBy : {S : Type 0} → (S → Entry → S → Type 0) → S → List Entry → S → Type 0
LeadsBy Steps s [] t = t ≡ s
LeadsBy {S} Steps s (entry ∷ entries) t = (m : S) × Steps s entry m × LeadsBy Steps m entries t

-- ---- what the code does on a console

-- from one moment to another the log grew by entries that lead from one stage to another, and what
-- was heard among them is the input
pub record Course {S : Type 0} (Steps : S → Entry → S → Type 0) (before now : ConsoleTold)
    (s t : S) : Type 0 where
  pub entries : List Entry
  pub log : Grows before.log now.log entries
  pub input : Hearing before.left entries now.left
  pub leads : LeadsBy Steps s entries t

-- after entries that lead to a stage of this kind, a call has failed; what is left of the input
-- isn't said
pub record BreaksOff {S : Type 0} (Steps : S → Entry → S → Type 0) (IsOpen : S → Type 0)
    (before now : ConsoleTold) (s : S) : Type 0 where
  pub stage : S
  pub unended : IsOpen stage
  pub unread : Option Bytes
  pub course : Course Steps before (with_left now unread) s stage

-- work that leads from a stage to the one that belongs to what it gives, or breaks off
abbrev pub Goes : {S T : Type 0}
    → (S → Entry → S → Type 0)
    → (S → Type 0)
    → ConsoleTold
    → ConsoleTold
    → S
    → Result T Stop
    → (T → S)
    → Type 0
Goes Steps IsOpen before now s (Ok x) to = Course Steps before now s (to x)
Goes Steps IsOpen before now s (Err stop) to = BreaksOff Steps IsOpen before now s
