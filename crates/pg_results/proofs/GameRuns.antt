-- A run that reads one game and decides it, put together.
use Rattle.std.proofs.Common.{◌≡◌, ◌∙◌, ◌⊎◌, ℕ, List, [], ◌∷◌, Option, Some, None, Ok, Err, refl}
use Rattle.std.proofs.Common.{sym, ap, subst, inl, inr, arith}
use Rattle.std.specs.Prelude.{IfSome}
use Rattle.pg_results.proofs.Common.{BothCauses, Bytes, Certificate, Changes, ConsoleTold, Contains}
use Rattle.pg_results.proofs.Common.{DONE, Done, End, Entry, FilesTold, Finished, Follows, Grows}
use Rattle.pg_results.proofs.Common.{Grows-then, Halt, HasCause, Hearing, Hearing-said}
use Rattle.pg_results.proofs.Common.{Hearing-then}
use Rattle.pg_results.proofs.Common.{Holding, IsNothing, Memory, NO_MEMORY, NoClaim, NoMeaning}
use Rattle.pg_results.proofs.Common.{READ_FAILED, Read, Refusal, Refused, Rejected, RejectedImage}
use Rattle.pg_results.proofs.Common.{RejectedSpan, RejectedVectors, Runs, Said, Stop, Stopped}
use Rattle.pg_results.proofs.Common.{UNKNOWN, WRITE_FAILED, Write, ending, game_held, nothing}
use Rattle.pg_results.proofs.Common.{refusal_status, refusal_text, stop_end, stop_status, talk}
use Rattle.pg_messages.specs.declared.refusal.Refusal.TheVariants.{Game, Record as FaultyRecord}
use Rattle.pg_results.specs.Ending.{Ends}
use Rattle.pg_results.specs.GameRuns.{DeclinesGame, EndsOnGame, IsQuiet, IsSilent, game_statuses}
use Rattle.pg_results.proofs.Causes.{cause_finished, other_status, refusal_finishes, stop_ends}

-- ---- statuses

-- a run that is done, or leaves the game open, has a status of its own
pub finishes : (status : ℕ) → EndsOnGame (Ok status) → ending status ≡ Finished status
finishes status (inl is) = subst (λ (s : ℕ). ending s ≡ Finished s) (sym is) refl
finishes status (inr is) = subst (λ (s : ℕ). ending s ≡ Finished s) (sym is) refl

at : (status same : ℕ)
    → status ≡ same
    → Contains game_statuses same
    → Contains game_statuses status
at status same is there = subst (λ (s : ℕ). Contains game_statuses s) (sym is) there

pub status_done : (status : ℕ) → EndsOnGame (Ok status) → Contains game_statuses status
status_done status (inl is) = at status DONE is (0, omega arith, refl)
status_done status (inr is) = at status UNKNOWN is (1, omega arith, refl)

refuses : (refusal : Refusal)
    → EndsOnGame (Err (Refused refusal))
    → Contains game_statuses (refusal_status refusal)
refuses NoMeaning gives = absurd gives
refuses (NoClaim side) gives = absurd gives
refuses (Game number line) gives = (2, omega arith, refl)
refuses (Certificate number line) gives = absurd gives
refuses (Rejected claim node why) gives = absurd gives
refuses (RejectedSpan claim why) gives = absurd gives
refuses (RejectedVectors claim node why) gives = absurd gives
refuses (RejectedImage claim node why) gives = absurd gives
refuses (FaultyRecord number line) gives = absurd gives

stops : (stop : Stop) → Contains game_statuses (stop_status stop)
stops Read = (3, omega arith, refl)
stops Write = (4, omega arith, refl)
stops Memory = (5, omega arith, refl)

pub status_early : (before after : ConsoleTold) (halt : Halt) (status : ℕ)
    → EndsOnGame (Err halt)
    → Ends halt before after status
    → Contains game_statuses status
status_early before after (Refused refusal) status gives (inl ends) =
    at status (refusal_status refusal) ends.0 (refuses refusal gives)
status_early before after (Refused refusal) status gives (inr ends) =
    at status WRITE_FAILED ends.0 (4, omega arith, refl)
status_early before after (Stopped stop) status gives ends =
    at status (stop_status stop) ends.0 (stops stop)

-- ---- what was printed at a failed read, and where memory ran out

pub silent_done : (before after : ConsoleTold) (status : ℕ)
    → EndsOnGame (Ok status)
    → IsSilent before after status
silent_done before after status gives =
    let other = other_status status (finishes status gives) in
    record { at_read = λ is. absurd (other.0 is); at_memory = λ is. absurd (other.2 is) }

pub silent_early : (before mid after : ConsoleTold) (halt : Halt)
    (status : ℕ)
    → IsQuiet before mid (Err halt)
    → Ends halt mid after status
    → IsSilent before after status
silent_early before mid after (Refused refusal) status quiets (inl (is, says, left, calm)) =
    let other = other_status status
    (subst (λ (s : ℕ). ending s ≡ Finished s) (sym is) (refusal_finishes refusal)) in
    record { at_read = λ e. absurd (other.0 e); at_memory = λ e. absurd (other.2 e) }
silent_early before mid after (Refused refusal) status quiets
    (inr (is, quiet, left, rose)) = record {
      at_read = λ e. let f : WRITE_FAILED ≡ READ_FAILED = sym is ∙ e in absurd (cc f);
      at_memory = λ e. let f : WRITE_FAILED ≡ NO_MEMORY = sym is ∙ e in absurd (cc f);
    }
silent_early before mid after (Stopped Read) status quiets (is, same) = record {
  at_read = λ e. subst (λ (c : ConsoleTold). IsQuiet before c (Err (Stopped Read)))
      (sym same) quiets;
  at_memory = λ e. let f : READ_FAILED ≡ NO_MEMORY = sym is ∙ e in absurd (cc f);
}
silent_early before mid after (Stopped Write) status quiets (is, same) = record {
  at_read = λ e. let f : WRITE_FAILED ≡ READ_FAILED = sym is ∙ e in absurd (cc f);
  at_memory = λ e. let f : WRITE_FAILED ≡ NO_MEMORY = sym is ∙ e in absurd (cc f);
}
silent_early before mid after (Stopped Memory) status quiets (is, same) = record {
  at_read = λ e. let f : NO_MEMORY ≡ READ_FAILED = sym is ∙ e in absurd (cc f);
  at_memory = λ e. subst (λ (c : ConsoleTold). IsQuiet before c (Err (Stopped Memory)))
      (sym same) quiets;
}

-- ---- causes

pub cause_done : (absent : Type 0) (files files' : FilesTold) (before after : ConsoleTold)
    (status : ℕ)
    → BothCauses absent files files' before after (Ok status)
    → EndsOnGame (Ok status)
    → HasCause absent files files' before after status
cause_done absent files files' before after status calm gives =
    cause_finished absent files files' before after status calm (finishes status gives)

-- ---- what was carried out

module _ (Act : Holding → Done → End → Type 0) (game : Bytes) (files files' : FilesTold) where
  -- a run on names that hold these bytes: it did what it is there for, or printed why it can't
  abbrev Acted : Holding → ConsoleTold → ConsoleTold → End → Type 0
  Acted held before after end = (done : Done)
      × (DeclinesGame held game done end ⊎ Act held done end)
      × Changes held files' before after done end

  pub acted_done : (before after : ConsoleTold) (status : ℕ)
      → ending status ≡ Finished status
      → Runs (λ held refusal. game_held (held game) ≡ Err (Refused refusal)) Act files files'
      before after (Ok status)
      → IfSome files.held (λ held. Acted held before after (ending status))
  acted_done before after status own carries = go files.held carries where
    go : (h : Option Holding)
        → IfSome h (λ held. Follows (λ refusal. game_held (held game) ≡ Err (Refused refusal))
        (Act held) held files' before after (Ok status))
        → IfSome h (λ held. Acted held before after (ending status))
    go None on = tt
    go (Some held) (done, act, changes) =
        subst (λ (end : End). Acted held before after end) (sym own) (done, inr act, changes)

  module _ (held : Holding) (before mid after : ConsoleTold) where
    declined : (stop : Stop) (done : Done)
        → IsNothing done
        → DeclinesGame held game done (stop_end stop)
    declined Read done none = none
    declined Write done none = none
    declined Memory done none = none

    -- why the run is refused is printed, or that fails; or it was stopped
    ended : (halt : Halt) (status : ℕ)
        → Follows (λ refusal. game_held (held game) ≡ Err (Refused refusal)) (Act held) held
        files' before mid (Err halt)
        → Ends halt mid after status
        → Acted held before after (ending status)
    ended (Refused refusal) status (refuses, changes) (inl (is, says, left, calm)) =
        let heard : Hearing before.left (Said (refusal_text refusal) ∷ []) after.left = subst
        (λ (l : Option Bytes). Hearing before.left (Said (refusal_text refusal) ∷ []) l) (sym left)
        (Hearing-then before.left mid.left mid.left [] (Said (refusal_text refusal) ∷ [])
        changes.talked.heard (Hearing-said mid.left (refusal_text refusal))) in
        let grown : Grows before.log after.log (Said (refusal_text refusal) ∷ []) =
        Grows-then before.log mid.log after.log []
        (Said (refusal_text refusal) ∷ []) changes.talked.logged says in
        let own : ending status ≡ Finished (refusal_status refusal) =
        ap ending is ∙ refusal_finishes refusal in
        subst (λ (end : End). Acted held before after end) (sym own) (
          talk (Said (refusal_text refusal) ∷ []),
          inl (refusal, refuses, refl, refl, refl),
          record { talked = record { logged = grown; heard = heard }; names = changes.names },
        )
    ended (Refused refusal) status (refuses, changes) (inr (is, quiet, left, rose)) =
        subst (λ (end : End). Acted held before after end) (sym (ap ending is)) (
          nothing,
          inl (refl, refl),
          record {
            talked = record {
              logged = subst (λ (l : Option (List Entry)). Grows before.log l [])
                  (sym quiet) changes.talked.logged;
              heard = (mid.left, changes.talked.heard);
            };
            names = changes.names;
          },
        )
    ended (Stopped stop) status (done, how, changes) (is, same) =
        let own : ending status ≡ stop_end stop = ap ending is ∙ stop_ends stop in
        subst (λ (end : End). Acted held before after end) (sym own) (
          done,
          elim how as (λ _. DeclinesGame held game done (stop_end stop)
              ⊎ Act held done (stop_end stop)) [
                | inl none ↦ inl (declined stop done none)
                | inr act ↦ inr act
              ],
          subst (λ (c : ConsoleTold). Changes held files' before c done (stop_end stop))
              (sym same) changes,
        )

  pub acted_early : (before mid after : ConsoleTold) (halt : Halt) (status : ℕ)
      → Runs (λ held refusal. game_held (held game) ≡ Err (Refused refusal)) Act files files'
      before mid (Err halt)
      → Ends halt mid after status
      → IfSome files.held (λ held. Acted held before after (ending status))
  acted_early before mid after halt status carries ends = go files.held carries where
    go : (h : Option Holding)
        → IfSome h (λ held. Follows (λ refusal. game_held (held game) ≡ Err (Refused refusal))
        (Act held) held files' before mid (Err halt))
        → IfSome h (λ held. Acted held before after (ending status))
    go None on = tt
    go (Some held) on = ended held before mid after halt status on ends
