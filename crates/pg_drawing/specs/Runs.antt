-- WHAT A RUN IS.
use Rattle.std.specs.Prelude.{◌≡◌, ◌⊎◌, ℕ, List, [], ◌∷◌, Option, Some, None, Result, Ok, Err}
use Rattle.std.specs.Prelude.{IfSome}
use Rattle.pg_drawing.specs.Prelude.{ConsoleTold, Grows, Bytes, Holding, NoMeaning, DONE}
use Rattle.pg_drawing.specs.Prelude.{NO_MEANING, FAULTY_GAME, REFUSED, READ_FAILED, WRITE_FAILED}
use Rattle.pg_drawing.specs.Prelude.{NO_MEMORY, IsGameHalt, IsReadHalt, IsLackingOne, IsLackingTwo}
use Rattle.pg_drawing.specs.Prelude.{Halt, Refused}
use Rattle.pg_io.specs.Causes.{Rose}
use Rattle.pg_io.specs.declared.entry.Entry.TheVariants.{Said}
use Rattle.pg_captions.specs.declared.look.Look.{Look}
use Rattle.pg_drawing.specs.Boards.{any_held, both_held}
use Rattle.pg_drawing.specs.Due.{IsDue}
use Rattle.pg_drawing.specs.Orders.{Order}
use Rattle.pg_drawing.specs.Orders.Order.{OfGame, OfNode}
use Rattle.pg_drawing.specs.declared.picturing.Telling.{Telling}

-- ---- statuses

-- a status that tells of a failed call, or of want of memory
abbrev pub IsStopped : ℕ → Type 0
IsStopped status = (status ≡ READ_FAILED) ⊎ ((status ≡ WRITE_FAILED) ⊎ (status ≡ NO_MEMORY))

-- the statuses with which a run may end
abbrev pub statuses_of : Option Order → List ℕ
statuses_of None = NO_MEANING ∷ WRITE_FAILED ∷ []
statuses_of (Some (OfGame game)) = DONE ∷ FAULTY_GAME ∷ READ_FAILED ∷ WRITE_FAILED ∷ NO_MEMORY ∷ []
statuses_of (Some (OfNode game certificate name)) =
    DONE ∷ NO_MEANING ∷ FAULTY_GAME ∷ REFUSED ∷ READ_FAILED ∷ WRITE_FAILED ∷ NO_MEMORY ∷ []

-- ---- what was said

-- what is due was said at once, and nothing else
pub record SaysDue (look : Look) (order : Option Order) (held : Holding)
    (before after : ConsoleTold) (status : ℕ) : Type 0 where
  pub text : Bytes
  pub due : IsDue look order held text status
  pub said : Grows before.log after.log (Said text ∷ [])

-- a call has failed or memory was wanting, and nothing was said
pub record SaysNothing (before after : ConsoleTold) (status : ℕ) : Type 0 where
  pub stopped : IsStopped status
  pub quiet : Grows before.log after.log []

-- a run, where it is told what the names hold
abbrev pub Ran : Look → Option Order → Option Holding → ConsoleTold → ConsoleTold → ℕ → Type 0
Ran look order told before after status = IfSome told
    (λ held. SaysDue look order held before after status ⊎ SaysNothing before after status)

-- ---- causes

-- it is told that a name that is wanted isn't held
abbrev pub IsLacking : Option Holding → Option Order → Type 0
IsLacking told None = ⊥
IsLacking told (Some (OfGame game)) = IsLackingOne any_held told game
IsLacking told (Some (OfNode game certificate name)) = IsLackingTwo both_held told game certificate

-- ---- what the code finds

-- with which status something of a certificate is said
abbrev pub IsCertEnd : ℕ → Type 0
IsCertEnd status = (status ≡ DONE) ⊎ ((status ≡ NO_MEANING) ⊎ (status ≡ REFUSED))

-- what may be found, and what may stand against it
abbrev pub Gives : Option Order → Result Telling Halt → Type 0
Gives None (Ok told) = ⊥
Gives None (Err halt) = halt ≡ Refused NoMeaning
Gives (Some (OfGame game)) (Ok told) = told.status ≡ DONE
Gives (Some (OfGame game)) (Err halt) = IsGameHalt halt
Gives (Some (OfNode game certificate name)) (Ok told) = IsCertEnd told.status
Gives (Some (OfNode game certificate name)) (Err halt) = IsReadHalt halt

-- the text was said, with the status; or that fails, and nothing was said
abbrev pub EndsWith : Bytes → ℕ → ConsoleTold → ConsoleTold → ℕ → Type 0
EndsWith text status before after result =
    ((result ≡ status)
    × Grows before.log after.log (Said text ∷ [])
    × (after.left ≡ before.left)
    × (after.faults ≡ before.faults))
    ⊎ ((result ≡ WRITE_FAILED)
    × (after.log ≡ before.log)
    × (after.left ≡ before.left)
    × Rose before.faults.writes after.faults.writes)
