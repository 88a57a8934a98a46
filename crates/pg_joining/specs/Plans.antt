-- The file of a plan: what it says, and what is printed of its fault.
use Rattle.std.specs.Prelude.{◌≡◌, ◌⊎◌, ℕ, List, [], ◌∷◌, ◌++◌, Option, Some, None, Result, Ok, Err}
use Rattle.std.specs.Prelude.{IsErrAnd, codes, decimal, ⊤}
use Rattle.pg_joining.specs.Prelude.{Bytes, Done, End, REFUSED, Failed, Fault, Faults, Finished}
use Rattle.pg_joining.specs.Prelude.{Holding, IsAbsent, IsNothing, Place, Said, Starved}
use Rattle.pg_joining.specs.Prelude.{StopCauses, name_in, number_of, plan_of}
use Rattle.pg_joining.specs.declared.plan_file.NoPlan.{NoPlan}
use Rattle.pg_joining.specs.declared.plan_file.NoPlan.TheVariants.{Faulty, Stopped}

-- the name of the plan's file in a folder
abbrev pub plan_in : Bytes → Bytes
plan_in folder = name_in folder (codes "plan")

-- ---- what a name holds

-- what was read is the plan that a text says, or its fault; where a call or memory has stopped
-- reading, nothing is said
abbrev pub IsReadSo : Result (List Place) (Fault × ℕ) → Result (List Place) NoPlan → Type 0
IsReadSo said (Ok places) = said ≡ Ok places
IsReadSo said (Err (Faulty number line)) =
    IsErrAnd said (λ bad. (number ≡ number_of bad.0) × (line ≡ bad.1))
IsReadSo said (Err (Stopped stop)) = ⊤

-- reading was stopped
abbrev pub IsStopped : Result (List Place) NoPlan → Type 0
IsStopped (Ok places) = ⊥
IsStopped (Err (Faulty number line)) = ⊥
IsStopped (Err (Stopped stop)) = ⊤

-- the same of the bytes that a name holds, if it holds any
abbrev pub IsPlanRead : Option Bytes → Result (List Place) NoPlan → Type 0
IsPlanRead None result = IsStopped result
IsPlanRead (Some text) result = IsReadSo (plan_of text) result

-- where it is told what the names hold, this is what that of the folder's plan says
abbrev pub OpensPlan : Option Holding → Bytes → Result (List Place) NoPlan → Type 0
OpensPlan None folder result = ⊤
OpensPlan (Some held) folder result = IsPlanRead (held (plan_in folder)) result

-- it is told that the folder has no plan
abbrev pub IsPlanAbsent : Option Holding → Bytes → Type 0
IsPlanAbsent told folder = IsAbsent told (plan_in folder)

-- where a plan or its fault was read, both numbers of faults are left, and what stopped reading has
-- its cause
abbrev pub PlanCauses : {T : Type 0} → Type 0 → Faults → Faults → Result T NoPlan → Type 0
PlanCauses absent before now (Ok _) = now ≡ before
PlanCauses absent before now (Err (Faulty number line)) = now ≡ before
PlanCauses absent before now (Err (Stopped stop)) = StopCauses absent before now stop

-- ---- what is printed

-- the text of a fault: its number, and that of its line
abbrev pub plan_fault_text : ℕ → ℕ → Bytes
plan_fault_text number line =
    codes "plan P" ++ (decimal number ++ (codes " line " ++ (decimal line ++ codes "\n")))

-- the fault of the plan in the folder is printed, with its status; if the run was stopped, nothing
-- was done
abbrev pub DeclinesPlan : Holding → Bytes → Done → End → Type 0
DeclinesPlan held folder done (Finished status) = (number : ℕ) × (line : ℕ)
    × IsPlanRead (held (plan_in folder)) (Err (Faulty number line))
    × (done.entries ≡ Said (plan_fault_text number line) ∷ [])
    × (done.stored ≡ [])
    × (status ≡ REFUSED)
DeclinesPlan held folder done Failed = IsNothing done
DeclinesPlan held folder done Starved = IsNothing done
