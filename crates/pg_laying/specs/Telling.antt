-- What is said if there is no layout.
use Rattle.std.specs.Prelude.{◌≡◌, ◌⊎◌, ℕ, ◌++◌, codes}
use Rattle.pg_laying.specs.Prelude.{Bytes, ConsoleTold, EndsWith, NO_MEMORY, Refused}
use Rattle.pg_laying.specs.Prelude.{Stopped, decimal, refusal_status, refusal_text, stop_status}
use Rattle.pg_laying.specs.declared.no_layout.NoLayout.{NoLayout}
use Rattle.pg_laying.specs.declared.no_layout.NoLayout.TheVariants.{Faulty, Halted, OtherGame}
use Rattle.pg_laying.specs.declared.no_layout.TheConstants.{FAULTY_LAYOUT, OTHER_GAME}

-- the text of a fault: its number, and that of its line
abbrev pub layout_fault_text : ℕ → ℕ → Bytes
layout_fault_text number line =
    codes "layout L" ++ (decimal number ++ (codes " line " ++ (decimal line ++ codes "\n")))

-- a run that ends without a layout: its text and status, or nothing and the status if it stopped
abbrev pub EndsWithout : NoLayout → ConsoleTold → ConsoleTold → ℕ → Type 0
EndsWithout (Halted (Refused refusal)) before after status =
    EndsWith (refusal_text refusal) (refusal_status refusal) before after status
EndsWithout (Halted (Stopped stop)) before after status =
    (status ≡ stop_status stop) × (after ≡ before)
EndsWithout OtherGame before after status =
    EndsWith OTHER_GAME.now FAULTY_LAYOUT before after status
EndsWithout (Faulty number line) before after status =
    EndsWith (layout_fault_text number line) FAULTY_LAYOUT before after status
    ⊎ ((status ≡ NO_MEMORY) × (after ≡ before))
