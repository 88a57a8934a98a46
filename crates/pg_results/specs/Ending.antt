-- How a run ends that was refused or stopped.
use Rattle.std.specs.Prelude.{◌≡◌, ◌⊎◌, ℕ, [], ◌∷◌}
use Rattle.pg_results.specs.Prelude.{ConsoleTold, Grows, Halt, Refused, Rose, Said, Stopped}
use Rattle.pg_results.specs.Prelude.{WRITE_FAILED, refusal_status, refusal_text}
use Rattle.pg_results.specs.Prelude.{stop_status}

-- the refusal that ended the run is printed, and the status is its own; if that fails, nothing is
-- printed. If the run was stopped, its status comes at once
abbrev pub Ends : Halt → ConsoleTold → ConsoleTold → ℕ → Type 0
Ends (Refused refusal) before after status =
    ((status ≡ refusal_status refusal)
    × Grows before.log after.log (Said (refusal_text refusal) ∷ [])
    × (after.left ≡ before.left)
    × (after.faults ≡ before.faults))
    ⊎ ((status ≡ WRITE_FAILED)
    × (after.log ≡ before.log)
    × (after.left ≡ before.left)
    × Rose before.faults.writes after.faults.writes)
Ends (Stopped stop) before after status = (status ≡ stop_status stop) × (after ≡ before)
