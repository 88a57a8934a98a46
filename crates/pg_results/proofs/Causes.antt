-- How a run ends: statuses and their causes.
use Rattle.std.proofs.Common.{◌≡◌, ◌≢◌, ℕ, Ok, Err, refl, sym, ◌∙◌, ap, subst, inl, inr}
use Rattle.pg_results.proofs.Common.{BothCauses, Calm, Certificate, ConsoleTold, End, Failed}
use Rattle.pg_results.proofs.Common.{Faults}
use Rattle.pg_results.proofs.Common.{FilesTold, Finished, Halt, HasCause, Memory, NO_MEMORY}
use Rattle.pg_results.proofs.Common.{NoClaim}
use Rattle.pg_results.proofs.Common.{NoMeaning, READ_FAILED, Read, Refusal, Refused, Rejected}
use Rattle.pg_results.proofs.Common.{RejectedImage, RejectedSpan, RejectedVectors, Rose, Starved}
use Rattle.pg_results.proofs.Common.{Stop, Stopped, WRITE_FAILED, Write, ending, refusal_status}
use Rattle.pg_results.proofs.Common.{stop_end, stop_status}
use Rattle.pg_messages.specs.declared.refusal.Refusal.TheVariants.{Game, Record as FaultyRecord}
use Rattle.pg_results.specs.Ending.{Ends}

-- ---- statuses

pub refusal_finishes : (refusal : Refusal)
    → ending (refusal_status refusal) ≡ Finished (refusal_status refusal)
refusal_finishes NoMeaning = refl
refusal_finishes (NoClaim side) = refl
refusal_finishes (Game number line) = refl
refusal_finishes (Certificate number line) = refl
refusal_finishes (Rejected claim node why) = refl
refusal_finishes (RejectedSpan claim why) = refl
refusal_finishes (RejectedVectors claim node why) = refl
refusal_finishes (RejectedImage claim node why) = refl
refusal_finishes (FaultyRecord number line) = refl

pub stop_ends : (stop : Stop) → ending (stop_status stop) ≡ stop_end stop
stop_ends Read = refl
stop_ends Write = refl
stop_ends Memory = refl

-- a status of its own tells neither of a failed call nor of memory
pub other_status : (status : ℕ)
    → ending status ≡ Finished status
    → (status ≢ READ_FAILED) × (status ≢ WRITE_FAILED) × (status ≢ NO_MEMORY)
other_status status own = (
  λ is. let e : Failed ≡ Finished status = sym (ap ending is) ∙ own in cc e,
  λ is. let e : Failed ≡ Finished status = sym (ap ending is) ∙ own in cc e,
  λ is. let e : Starved ≡ Finished status = sym (ap ending is) ∙ own in cc e,
)

-- ---- causes

pub cause_finished : (absent : Type 0) (files files' : FilesTold) (before after : ConsoleTold)
    (status : ℕ)
    → BothCauses absent files files' before after (Ok status)
    → ending status ≡ Finished status
    → HasCause absent files files' before after status
cause_finished absent files files' before after status calm own =
    let other = other_status status own in
    record {
      read = λ is. absurd (other.0 is);
      write = λ is. absurd (other.1 is);
      other = λ _ _. calm;
    }

pub cause_early : (absent : Type 0) (files files' : FilesTold) (before mid after : ConsoleTold)
    (halt : Halt) (status : ℕ)
    → BothCauses absent files files' before mid (Err halt)
    → Ends halt mid after status
    → HasCause absent files files' before after status
cause_early absent files files' before mid after (Refused refusal) status calm
    (inl (is, says, left, same)) =
    let other = other_status status
    (subst (λ (s : ℕ). ending s ≡ Finished s) (sym is) (refusal_finishes refusal)) in
    record {
      read = λ e. absurd (other.0 e);
      write = λ e. absurd (other.1 e);
      other = λ _ _. record { on_files = calm.on_files; on_console = same ∙ calm.on_console };
    }
cause_early absent files files' before mid after (Refused refusal) status calm (inr (
  is,
  quiet,
  left,
  rose,
)) = record {
  read = λ e. let f : WRITE_FAILED ≡ READ_FAILED = sym is ∙ e in absurd (cc f);
  write = λ _. inr (subst (λ (f : Faults). Rose f.writes after.faults.writes) calm.on_console rose);
  other = λ _ unwritten. absurd (unwritten is);
}
cause_early absent files files' before mid after (Stopped Read) status cause (is, same) = record {
  read =
      λ _. subst (λ (c : ConsoleTold). BothCauses absent files files' before c (Err (Stopped Read)))
      (sym same) cause;
  write = λ e. let f : READ_FAILED ≡ WRITE_FAILED = sym is ∙ e in absurd (cc f);
  other = λ unread _. absurd (unread is);
}
cause_early absent files files' before mid after (Stopped Write) status cause (is, same) = record {
  read = λ e. let f : WRITE_FAILED ≡ READ_FAILED = sym is ∙ e in absurd (cc f);
  write = λ _. subst (λ (c : ConsoleTold).
      BothCauses absent files files' before c (Err (Stopped Write))) (sym same) cause;
  other = λ _ unwritten. absurd (unwritten is);
}
cause_early absent files files' before mid after (Stopped Memory) status calm (is, same) = record {
  read = λ e. let f : NO_MEMORY ≡ READ_FAILED = sym is ∙ e in absurd (cc f);
  write = λ e. let f : NO_MEMORY ≡ WRITE_FAILED = sym is ∙ e in absurd (cc f);
  other = λ _ _. subst (λ (c : ConsoleTold). Calm files files' before c) (sym same) calm;
}
