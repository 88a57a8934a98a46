-- How runs that split a game end: statuses and causes.
use Rattle.std.proofs.Common.{◌≡◌, ◌∙◌, ℕ, Ok, Err, arith}
use Rattle.std.proofs.Common.{inl}
use Rattle.std.proofs.Common.{inr}
use Rattle.std.proofs.Common.{refl, subst, sym}
use Rattle.std.specs.List.{Contains}
use Rattle.pg_io.specs.Causes.{Faults, Rose}
use Rattle.pg_io.specs.Console.{ConsoleTold}
use Rattle.pg_io.specs.Files.{FilesTold}
use Rattle.pg_io.specs.Stop.{StopCauses}
use Rattle.pg_io.specs.declared.stop.Stop.{Stop}
use Rattle.pg_io.specs.declared.stop.Stop.TheVariants.{Memory, Read, Write}
use Rattle.pg_messages.specs.Statuses.{refusal_status}
use Rattle.pg_messages.specs.declared.refusal.Refusal.{Refusal}
use Rattle.pg_messages.specs.declared.refusal.Refusal.TheVariants as refusals
use Rattle.pg_messages.specs.declared.statuses.TheConstants.{DONE, NO_MEMORY, READ_FAILED, REFUSED}
use Rattle.pg_messages.specs.declared.statuses.TheConstants.{WRITE_FAILED}
use Rattle.pg_results.proofs.Causes.{other_status, refusal_finishes}
use Rattle.pg_results.specs.Ending.{Ends}
use Rattle.pg_results.specs.GameRuns.{IsSilent}
use Rattle.pg_talk.specs.Done.{Finished, ending}
use Rattle.pg_talk.specs.Halts.{ReadCause, WriteCause}
use Rattle.pg_talk.specs.Halts.{stop_status}
use Rattle.pg_talk.specs.declared.halt.Halt.{Halt}
use Rattle.pg_talk.specs.declared.halt.Halt.TheVariants.{Refused, Stopped}
use Rattle.pg_splitting.specs.SplitFiles.{StoreCauses}
use Rattle.pg_splitting.specs.SplitRuns.{EndsOnSplit, HasSplitCause, IsCalm}
use Rattle.pg_splitting.specs.SplitRuns.{IsUnstored, IsUnstoredAt, SplitCauses}
use Rattle.pg_splitting.specs.SplitRuns.{split_statuses}

-- ---- statuses

pub finishes : (status : ℕ) → EndsOnSplit (Ok status) → ending status ≡ Finished status
finishes status (inl is) = subst (λ (s : ℕ). ending s ≡ Finished s) (sym is) refl
finishes status (inr is) = subst (λ (s : ℕ). ending s ≡ Finished s) (sym is) refl

at : (status same : ℕ)
    → status ≡ same
    → Contains split_statuses same
    → Contains split_statuses status
at status same is there = subst (λ (s : ℕ). Contains split_statuses s) (sym is) there

pub status_done : (status : ℕ) → EndsOnSplit (Ok status) → Contains split_statuses status
status_done status (inl is) = at status DONE is (0, omega arith, refl)
status_done status (inr is) = at status REFUSED is (2, omega arith, refl)

refuses : (refusal : Refusal)
    → EndsOnSplit (Err (Refused refusal))
    → Contains split_statuses (refusal_status refusal)
refuses refusals.NoMeaning gives = absurd gives
refuses (refusals.NoClaim side) gives = absurd gives
refuses (refusals.Game number line) gives = (1, omega arith, refl)
refuses (refusals.Certificate number line) gives = absurd gives
refuses (refusals.Rejected claim node why) gives = absurd gives
refuses (refusals.RejectedSpan claim why) gives = absurd gives
refuses (refusals.RejectedVectors claim node why) gives = absurd gives
refuses (refusals.RejectedImage claim node why) gives = absurd gives
refuses (refusals.Record number line) gives = absurd gives

stops : (stop : Stop) → Contains split_statuses (stop_status stop)
stops Read = (3, omega arith, refl)
stops Write = (4, omega arith, refl)
stops Memory = (5, omega arith, refl)

pub status_early : (before after : ConsoleTold) (halt : Halt) (status : ℕ)
    → EndsOnSplit (Err halt)
    → Ends halt before after status
    → Contains split_statuses status
status_early before after (Refused refusal) status gives (inl ends) =
    at status (refusal_status refusal) ends.0 (refuses refusal gives)
status_early before after (Refused refusal) status gives (inr ends) =
    at status WRITE_FAILED ends.0 (4, omega arith, refl)
status_early before after (Stopped stop) status gives ends =
    at status (stop_status stop) ends.0 (stops stop)

pub silent_done : (before after : ConsoleTold) (status : ℕ)
    → EndsOnSplit (Ok status)
    → IsSilent before after status
silent_done before after status gives =
    let other = other_status status (finishes status gives) in
    record { at_read = λ is. absurd (other.0 is); at_memory = λ is. absurd (other.2 is) }

-- ---- what is stored

pub kept_done : (files files' : FilesTold) (status : ℕ)
    → IsUnstored files files' (Ok status)
    → IsUnstoredAt files files' status
kept_done files files' status (inl is) = λ undone _ _. absurd (undone is)
kept_done files files' status (inr same) = λ _ _ _. same

pub kept_early : (files files' : FilesTold) (before after : ConsoleTold) (halt : Halt)
    (status : ℕ)
    → IsUnstored files files' (Err halt)
    → Ends halt before after status
    → IsUnstoredAt files files' status
kept_early files files' before after (Refused refusal) status same ends = λ _ _ _. same
kept_early files files' before after (Stopped Read) status same ends = λ _ _ _. same
kept_early files files' before after (Stopped Write) status same ends =
    λ _ unwritten _. absurd (unwritten ends.0)
kept_early files files' before after (Stopped Memory) status same ends =
    λ _ _ fed. absurd (fed ends.0)

-- ---- numbers of faults that delivering leaves

pub store_calm : (files files' : FilesTold) (stop : Stop)
    → StoreCauses files.faults files'.faults (Err stop)
    → IsCalm files files' (Err (Stopped stop))
store_calm files files' Read none = tt
store_calm files files' Write rose = tt
store_calm files files' Memory calm = calm

pub say_calm : (files files' : FilesTold) (stop : Stop)
    → stop ≡ Write
    → IsCalm files files' (Err (Stopped stop))
say_calm files files' Read is = tt
say_calm files files' Write is = tt
say_calm files files' Memory is = absurd (cc is)

-- ---- causes by the status

pub cause_done : (absent : Type 0) (files files' : FilesTold) (before after : ConsoleTold)
    (status : ℕ)
    → SplitCauses absent files files' before after (Ok status)
    → EndsOnSplit (Ok status)
    → HasSplitCause absent files files' before after status
cause_done absent files files' before after status calm gives =
    let other = other_status status (finishes status gives) in
    record {
      read = λ is. absurd (other.0 is);
      write = λ is. absurd (other.1 is);
      other = λ _ _. calm;
    }

pub cause_early : (absent : Type 0) (files files' : FilesTold) (before mid after : ConsoleTold)
    (halt : Halt) (status : ℕ)
    → SplitCauses absent files files' before mid (Err halt)
    → Ends halt mid after status
    → HasSplitCause absent files files' before after status
cause_early absent files files' before mid after (Refused refusal) status calm
    (inl (is, says, left, same)) =
    let other = other_status status
    (subst (λ (s : ℕ). ending s ≡ Finished s) (sym is) (refusal_finishes refusal)) in
    record {
      read = λ e. absurd (other.0 e);
      write = λ e. absurd (other.1 e);
      other = λ _ _. same ∙ calm;
    }
cause_early absent files files' before mid after (Refused refusal) status calm (inr (
  is,
  quiet,
  left,
  rose,
)) = record {
  read = λ e. let f : WRITE_FAILED ≡ READ_FAILED = sym is ∙ e in absurd (cc f);
  write = λ _. inr (subst (λ (f : Faults). Rose f.writes after.faults.writes) calm rose);
  other = λ _ unwritten. absurd (unwritten is);
}
cause_early absent files files' before mid after (Stopped Read) status cause (is, same) = record {
  read = λ _. subst (λ (c : ConsoleTold). ReadCause absent files files' before c) (sym same) cause;
  write = λ e. let f : READ_FAILED ≡ WRITE_FAILED = sym is ∙ e in absurd (cc f);
  other = λ unread _. absurd (unread is);
}
cause_early absent files files' before mid after (Stopped Write) status cause (is, same) = record {
  read = λ e. let f : WRITE_FAILED ≡ READ_FAILED = sym is ∙ e in absurd (cc f);
  write = λ _. subst (λ (c : ConsoleTold). WriteCause files files' before c) (sym same) cause;
  other = λ _ unwritten. absurd (unwritten is);
}
cause_early absent files files' before mid after (Stopped Memory) status calm (is, same) = record {
  read = λ e. let f : NO_MEMORY ≡ READ_FAILED = sym is ∙ e in absurd (cc f);
  write = λ e. let f : NO_MEMORY ≡ WRITE_FAILED = sym is ∙ e in absurd (cc f);
  other = λ _ _. subst (λ (c : ConsoleTold). c.faults ≡ before.faults) (sym same) calm;
}

-- ---- causes of the parts

-- a file couldn't be stored
pub store_cause : (files files' : FilesTold) (console : ConsoleTold) (stop : Stop)
    → StoreCauses files.faults files'.faults (Err stop)
    → SplitCauses ⊥ files files' console console (Err (Stopped stop))
store_cause files files' console Read none = absurd none
store_cause files files' console Write rose = inl rose
store_cause files files' console Memory calm = refl

-- a text couldn't be said
pub say_cause : (absent : Type 0) (files files' : FilesTold) (before after : ConsoleTold)
    (stop : Stop)
    → stop ≡ Write
    → StopCauses ⊥ before.faults after.faults stop
    → SplitCauses absent files files' before after (Err (Stopped stop))
say_cause absent files files' before after Read is causes = absurd (cc is)
say_cause absent files files' before after Write is rose = inr rose
say_cause absent files files' before after Memory is calm = absurd (cc is)
