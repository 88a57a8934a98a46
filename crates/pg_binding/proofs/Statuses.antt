-- With which statuses a run ends.
use Rattle.std.proofs.Common.{◌≡◌, ℕ, List, refl, sym, subst, arith}
use Rattle.pg_binding.proofs.Common.{Contains, DONE, Halt, IsReadHalt, Memory, Read, Refusal}
use Rattle.pg_binding.proofs.Common.{Refused, Stopped, WRITE_FAILED, Write, refusal_status}
use Rattle.pg_binding.proofs.Common.{stop_status}
use Rattle.pg_io.specs.declared.stop.Stop.{Stop}
use Rattle.pg_messages.specs.declared.refusal.Refusal.TheVariants.{Certificate, Game, NoClaim}
use Rattle.pg_messages.specs.declared.refusal.Refusal.TheVariants.{NoMeaning, Record, Rejected}
use Rattle.pg_messages.specs.declared.refusal.Refusal.TheVariants.{RejectedImage, RejectedSpan}
use Rattle.pg_messages.specs.declared.refusal.Refusal.TheVariants.{RejectedVectors}
use Rattle.pg_binding.specs.Runs.{book_statuses}

pub book_writes_fail : Contains book_statuses WRITE_FAILED
book_writes_fail = (4, omega arith, refl)

pub book_done : (status : ℕ) → status ≡ DONE → Contains book_statuses status
book_done status is = subst (λ (s : ℕ). Contains book_statuses s) (sym is) (0, omega arith, refl)

pub book_refused : (refusal : Refusal)
    → IsReadHalt (Refused refusal)
    → Contains book_statuses (refusal_status refusal)
book_refused NoMeaning can = absurd can
book_refused (NoClaim side) can = absurd can
book_refused (Record number line) can = absurd can
book_refused (Game number line) can = (1, omega arith, refl)
book_refused (Certificate number line) can = (2, omega arith, refl)
book_refused (Rejected claim node why) can = (2, omega arith, refl)
book_refused (RejectedSpan claim why) can = (2, omega arith, refl)
book_refused (RejectedVectors claim node why) can = (2, omega arith, refl)
book_refused (RejectedImage claim node why) can = (2, omega arith, refl)

pub book_stopped : (stop : Stop) → Contains book_statuses (stop_status stop)
book_stopped Read = (3, omega arith, refl)
book_stopped Write = (4, omega arith, refl)
book_stopped Memory = (5, omega arith, refl)
