-- With which statuses a run ends.
use Rattle.std.proofs.Common.{◌≡◌, ℕ, List, refl, sym, subst, inl, inr, arith}
use Rattle.pg_replaying.proofs.Common.{Contains, DONE, Memory, NO_MEANING, NoMeaning, Read, Record}
use Rattle.pg_replaying.proofs.Common.{Refusal, Refused, WRITE_FAILED, Write, refusal_status}
use Rattle.pg_replaying.proofs.Common.{stop_status}
use Rattle.pg_io.specs.declared.stop.Stop.{Stop}
use Rattle.pg_messages.specs.declared.refusal.Refusal.TheVariants as refusals
use Rattle.pg_replaying.specs.Records.{IsRecordHalt}
use Rattle.pg_replaying.specs.Runs.{IsRecordEnd, record_statuses}

pub writes_fail : Contains record_statuses WRITE_FAILED
writes_fail = (4, omega arith, refl)

is_at : (n m : ℕ) → n ≡ m → Contains record_statuses m → Contains record_statuses n
is_at n m is there = subst (λ (s : ℕ). Contains record_statuses s) (sym is) there

pub told_status : (status : ℕ) → IsRecordEnd status → Contains record_statuses status
told_status status (inl is) = is_at status DONE is (0, omega arith, refl)
told_status status (inr is) = is_at status NO_MEANING is (1, omega arith, refl)

pub refusal_in : (refusal : Refusal)
    → IsRecordHalt (Refused refusal)
    → Contains record_statuses (refusal_status refusal)
refusal_in (refusals.Game number line) halts = (2, omega arith, refl)
refusal_in refusals.NoMeaning halts = (1, omega arith, refl)
refusal_in (refusals.Record number line) halts = (6, omega arith, refl)
refusal_in (refusals.NoClaim side) halts = absurd halts
refusal_in (refusals.Certificate number line) halts = absurd halts
refusal_in (refusals.Rejected claim node why) halts = absurd halts
refusal_in (refusals.RejectedSpan claim why) halts = absurd halts
refusal_in (refusals.RejectedVectors claim node why) halts = absurd halts
refusal_in (refusals.RejectedImage claim node why) halts = absurd halts

pub stopped_status : (stop : Stop) → Contains record_statuses (stop_status stop)
stopped_status Read = (3, omega arith, refl)
stopped_status Write = (4, omega arith, refl)
stopped_status Memory = (5, omega arith, refl)
