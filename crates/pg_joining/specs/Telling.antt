-- How a run ends that prints a text at its end.
use Rattle.std.specs.Prelude.{◌≡◌, ◌⊎◌, ℕ, List, [], ◌∷◌}
use Rattle.pg_joining.specs.Prelude.{Bytes, ConsoleTold, DONE, FAULTY_GAME, Grows, NO_MEMORY, Need}
use Rattle.pg_joining.specs.Prelude.{READ_FAILED, REFUSED, Rose, Said, UNKNOWN, WRITE_FAILED}
use Rattle.pg_joining.specs.Prelude.{needs_text}
use Rattle.pg_joining.specs.Plans.{plan_fault_text}

-- the statuses of a run that joins certificates
abbrev pub join_statuses : List ℕ
join_statuses =
    DONE ∷ UNKNOWN ∷ FAULTY_GAME ∷ REFUSED ∷ READ_FAILED ∷ WRITE_FAILED ∷ NO_MEMORY ∷ []

-- the text is printed, and the status is this one; if that fails, nothing is printed
abbrev pub EndsSaying : Bytes → ℕ → ConsoleTold → ConsoleTold → ℕ → Type 0
EndsSaying text own before after status =
    ((status ≡ own)
    × Grows before.log after.log (Said text ∷ [])
    × (after.left ≡ before.left)
    × (after.faults ≡ before.faults))
    ⊎ ((status ≡ WRITE_FAILED)
    × (after.log ≡ before.log)
    × (after.left ≡ before.left)
    × Rose before.faults.writes after.faults.writes)

-- the positions are printed that are needed
abbrev pub EndsOnNeeds : List Need → ConsoleTold → ConsoleTold → ℕ → Type 0
EndsOnNeeds needs before after status = EndsSaying (needs_text needs) UNKNOWN before after status

-- the fault of a plan is printed; or memory ran out first
abbrev pub EndsOnPlan : ℕ → ℕ → ConsoleTold → ConsoleTold → ℕ → Type 0
EndsOnPlan number line before after status =
    EndsSaying (plan_fault_text number line) REFUSED before after status
    ⊎ ((status ≡ NO_MEMORY) × (after ≡ before))
