-- WHAT A RUN IS.
use Rattle.std.specs.Prelude.{◌≡◌, ◌⊎◌, ℕ, List, [], ◌∷◌, Option, Some, None, Result, Ok, Err}
use Rattle.std.specs.Prelude.{IfSome}
use Rattle.pg_replaying.specs.Prelude.{AnyEntry, Bytes, Connectivity, ConsoleTold, DONE}
use Rattle.pg_replaying.specs.Prelude.{FAULTY_GAME, FAULTY_RECORD, Grows, Halt, Holding, Look}
use Rattle.pg_replaying.specs.Prelude.{NO_MEANING, NO_MEMORY, Positional, READ_FAILED, SaysNothing}
use Rattle.pg_replaying.specs.Prelude.{Vectors, WRITE_FAILED, any_held, lacking}
use Rattle.pg_io.specs.declared.entry.Entry.TheVariants.{Said}
use Rattle.pg_replaying.specs.Due.{IsRecordDue}

-- with which status something of a record is said
abbrev pub IsRecordEnd : ℕ → Type 0
IsRecordEnd status = (status ≡ DONE) ⊎ (status ≡ NO_MEANING)

-- the statuses with which a run may end
abbrev pub record_statuses : List ℕ
record_statuses = DONE ∷ NO_MEANING ∷ FAULTY_GAME ∷ READ_FAILED ∷ WRITE_FAILED ∷ NO_MEMORY
    ∷ FAULTY_RECORD ∷ []

-- what is due was said at once, and nothing else
pub record SaysMoves (look : Look) (game name : Bytes) (count : Option ℕ) (held : Holding)
    (before after : ConsoleTold) (status : ℕ) : Type 0 where
  pub text : Bytes
  pub due : IsRecordDue look count (any_held (held game)) (held name) text status
  pub said : Grows before.log after.log (Said text ∷ [])

-- a run, where it is told what the names contain
abbrev pub Ran : Look
    → Bytes
    → Bytes
    → Option ℕ
    → Option Holding
    → ConsoleTold
    → ConsoleTold
    → ℕ
    → Type 0
Ran look game name count told before after status = IfSome told
    (λ held. SaysMoves look game name count held before after status
    ⊎ SaysNothing before after status)

-- the game's file is missing, or the record's where games of the kind are recorded
abbrev pub Lacks : Result AnyEntry Halt → Option Bytes → Type 0
Lacks (Err halt) bytes = halt ≡ lacking
Lacks (Ok (Positional e)) bytes = bytes ≡ None
Lacks (Ok (Connectivity e)) bytes = ⊥
Lacks (Ok (Vectors e)) bytes = ⊥

-- it is told that the record of this game is missing
abbrev pub LacksRecordOf : Result AnyEntry Halt → Option Holding → Bytes → Type 0
LacksRecordOf board None name = ⊥
LacksRecordOf board (Some held) name = Lacks board (held name)

-- it is told that a name that is wanted is missing
abbrev pub LacksRecord : Option Holding → Bytes → Bytes → Type 0
LacksRecord None game name = ⊥
LacksRecord (Some held) game name = Lacks (any_held (held game)) (held name)
