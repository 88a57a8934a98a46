-- The statuses of runs that join certificates.
use Rattle.std.proofs.Common.{◌≡◌, ℕ, zero, suc, arith, inl, inr, refl, subst, sym}
use Rattle.pg_joining.proofs.Common.{Bytes, ConsoleTold, Contains, Ends, Memory, NO_MEMORY, REFUSED}
use Rattle.pg_joining.proofs.Common.{Read, Stop, StoppedHalt, UNKNOWN, WRITE_FAILED, Write}
use Rattle.pg_joining.proofs.Common.{game_statuses, stop_status}
use Rattle.pg_joining.specs.Telling.{EndsOnPlan, EndsSaying, join_statuses}

-- those of a run that settles a game
pub settled_there : (status : ℕ) → Contains game_statuses status → Contains join_statuses status
settled_there status (zero, lt, e) = (0, omega arith, e)
settled_there status (suc zero, lt, e) = (1, omega arith, e)
settled_there status (suc (suc zero), lt, e) = (2, omega arith, e)
settled_there status (suc (suc (suc zero)), lt, e) = (4, omega arith, e)
settled_there status (suc (suc (suc (suc zero))), lt, e) = (5, omega arith, e)
settled_there status (suc (suc (suc (suc (suc zero)))), lt, e) = (6, omega arith, e)
settled_there status (suc (suc (suc (suc (suc (suc k))))), lt, e) = absurd (omega (arith, lt))

at : (status same : ℕ)
    → status ≡ same
    → Contains join_statuses same
    → Contains join_statuses status
at status same is there = subst (λ (s : ℕ). Contains join_statuses s) (sym is) there

pub unknown_status : (text : Bytes) (before after : ConsoleTold) (status : ℕ)
    → EndsSaying text UNKNOWN before after status
    → Contains game_statuses status
unknown_status text before after status (inl ends) =
    subst (λ (s : ℕ). Contains game_statuses s) (sym ends.0) (1, omega arith, refl)
unknown_status text before after status (inr ends) =
    subst (λ (s : ℕ). Contains game_statuses s) (sym ends.0) (4, omega arith, refl)

pub status_on_plan : (number line : ℕ) (before after : ConsoleTold) (status : ℕ)
    → EndsOnPlan number line before after status
    → Contains join_statuses status
status_on_plan number line before after status (inl (inl ends)) =
    at status REFUSED ends.0 (3, omega arith, refl)
status_on_plan number line before after status (inl (inr ends)) =
    at status WRITE_FAILED ends.0 (5, omega arith, refl)
status_on_plan number line before after status (inr ends) =
    at status NO_MEMORY ends.0 (6, omega arith, refl)

stop_there : (stop : Stop) → Contains join_statuses (stop_status stop)
stop_there Read = (4, omega arith, refl)
stop_there Write = (5, omega arith, refl)
stop_there Memory = (6, omega arith, refl)

pub status_on_stop : (before after : ConsoleTold) (stop : Stop) (status : ℕ)
    → Ends (StoppedHalt stop) before after status
    → Contains join_statuses status
status_on_stop before after stop status ends = at status (stop_status stop) ends.0 (stop_there stop)
