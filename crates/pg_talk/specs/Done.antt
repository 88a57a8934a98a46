-- What was done in a run: what was said and stored, and how it ended.
use Rattle.std.specs.Prelude.{◌≡◌, ◌⊎◌, ℕ, ◌==◌, ◌||◌, List, [], ◌∷◌, ◌++◌, map, Option, Some, None}
use Rattle.std.specs.Prelude.{Result, Ok, Err, if◌then◌else◌, IfSome}
use Rattle.pg_talk.specs.Prelude.{bytes_eq, ConsoleTold, Grows, Bytes, Holding, Making, FilesTold}
use Rattle.pg_talk.specs.Prelude.{Entry, Said, Stop, Read, Write, Memory, Refusal, READ_FAILED}
use Rattle.pg_talk.specs.Prelude.{WRITE_FAILED, NO_MEMORY}
use Rattle.pg_talk.specs.Hearing.{Hearing}
use Rattle.pg_talk.specs.declared.halt.Halt.{Halt}
use Rattle.pg_talk.specs.declared.halt.Halt.TheVariants.{Refused, Stopped}

-- the entries that a run added to the log, and the files that it finished, the last one first
pub record Done : Type 0 where
  pub entries : List Entry
  pub stored : List Making

-- nothing was said, heard or stored
abbrev pub nothing : Done
nothing = record { entries = []; stored = [] }

-- this is that nothing was done
abbrev pub IsNothing : Done → Type 0
IsNothing done = (done.entries ≡ []) × (done.stored ≡ [])

-- one part was done, and then another
abbrev pub behind : Done → Done → Done
behind first part =
    record { entries = first.entries ++ part.entries; stored = part.stored ++ first.stored }

-- this was said and heard, and nothing was stored
abbrev pub talk : List Entry → Done
talk entries = record { entries = entries; stored = [] }

-- how a run ends: with a status of its own, cut short by a failed call, or for want of memory
pub data End : Type 0 where
  Finished : (status : ℕ) → End
  Failed : End
  Starved : End

-- what a status says of the end
abbrev pub ending : ℕ → End
ending status = if status == NO_MEMORY
    then Starved
    else if status == READ_FAILED || status == WRITE_FAILED
    then Failed
    else Finished status

abbrev pub stop_end : Stop → End
stop_end Read = Failed
stop_end Write = Failed
stop_end Memory = Starved

-- the first of these texts were said
abbrev pub SaysFirst : List Bytes → List Entry → Type 0
SaysFirst texts entries = (front : List Bytes) × (rest : List Bytes) × (texts ≡ front ++ rest)
    × (entries ≡ map Said front)

-- what was heard is the input, in order, and the console's unread input is left of it; where a call
-- failed, it may be another
abbrev pub Hears : End → Option Bytes → List Entry → Option Bytes → Type 0
Hears (Finished status) before entries after = Hearing before entries after
Hears Failed before entries after = (unread : Option Bytes) × Hearing before entries unread
Hears Starved before entries after = Hearing before entries after

-- the log has these entries more and no others, and what was heard is the input
pub record Talked (before after : ConsoleTold) (entries : List Entry) (end : End) : Type 0 where
  pub logged : Grows before.log after.log entries
  pub heard : Hears end before.left entries after.left

-- the bytes under a name after these files were stored, the last one first
abbrev pub held_after : Holding → List Making → Holding
held_after held [] name = held name
held_after held (file ∷ files) name =
    if bytes_eq file.0 name then Some file.1 else held_after held files name

-- each name holds what it held, but for the files that were stored
abbrev pub Keeps : Holding → List Making → Option Holding → Type 0
Keeps held stored None = ⊥
Keeps held stored (Some after) = (name : Bytes) → after name ≡ held_after held stored name

-- the log, the input and the names have changed by just what was done
pub record Changes (held : Holding) (files : FilesTold) (before after : ConsoleTold) (done : Done)
    (end : End) : Type 0 where
  pub talked : Talked before after done.entries end
  pub names : Keeps held done.stored files.held

-- ---- work that acts or refuses

-- how far work came that was stopped: it had acted so far, or not begun
abbrev pub Stops : (Done → End → Type 0) → Done → End → Type 0
Stops Act done end = IsNothing done ⊎ Act done end

-- on names that hold these bytes: where it is done it has acted so; where it refuses, this stands
-- against it and nothing was said yet; where it was stopped, it had acted so far, or not begun
abbrev pub Follows : (Refusal → Type 0)
    → (Done → End → Type 0)
    → Holding
    → FilesTold
    → ConsoleTold
    → ConsoleTold
    → Result ℕ Halt
    → Type 0
Follows Against Act held files before after (Ok status) = (done : Done) × Act done (Finished status)
    × Changes held files before after done (Finished status)
Follows Against Act held files before after (Err (Refused refusal)) =
    Against refusal × Changes held files before after nothing Starved
Follows Against Act held files before after (Err (Stopped stop)) =
    (done : Done) × Stops Act done (stop_end stop)
    × Changes held files before after done (stop_end stop)

-- work that refuses nothing, where it is told what the names hold
abbrev pub Does : (Done → End → Type 0)
    → FilesTold
    → FilesTold
    → ConsoleTold
    → ConsoleTold
    → Result ℕ Halt
    → Type 0
Does Act files files' before after result =
    IfSome files.held (λ held. Follows (λ _. ⊥) Act held files' before after result)

-- the same on a console alone
abbrev pub Performs : (Refusal → Type 0)
    → (List Entry → End → Type 0)
    → ConsoleTold
    → ConsoleTold
    → Result ℕ Halt
    → Type 0
Performs Against Act before after (Ok status) =
    (entries : List Entry) × Act entries (Finished status)
    × Talked before after entries (Finished status)
Performs Against Act before after (Err (Refused refusal)) =
    Against refusal × Talked before after [] Starved
Performs Against Act before after (Err (Stopped stop)) =
    (entries : List Entry) × ((entries ≡ []) ⊎ Act entries (stop_end stop))
    × Talked before after entries (stop_end stop)
