-- How a run ends.
use Rattle.std.proofs.Common.{◌≡◌, ◌≢◌, ℕ, Bool, true, false, if◌then◌else◌, List, [], ◌∷◌, Option}
use Rattle.std.proofs.Common.{Some, None, Ok, Err, refl, sym, ◌∙◌, ap, subst, inl, inr, arith}
use Rattle.std.specs.Prelude.{IfSome}
use Rattle.pg_cli.proofs.Common.{Contains, Faults, Rose, ConsoleTold, Grows, Bytes, Holding}
use Rattle.pg_cli.proofs.Common.{FilesTold, Entry, Said, Stop, Read, Write, Memory, refusal_status}
use Rattle.pg_cli.proofs.Common.{refusal_text, Refusal, NoMeaning, NoClaim, Certificate, Rejected}
use Rattle.pg_cli.proofs.Common.{RejectedSpan, RejectedVectors, RejectedImage, DONE, UNKNOWN}
use Rattle.pg_cli.proofs.Common.{REFUSED, NO_MEANING, READ_FAILED, WRITE_FAILED, NO_MEMORY}
use Rattle.pg_cli.proofs.Common.{OUT_OF_REPLIES, Command, Solve, Check, Play, Gen, Report, OfFamily}
use Rattle.pg_cli.proofs.Common.{Record, Review, Source, Done, End, Finished, Failed, Starved}
use Rattle.pg_cli.proofs.Common.{Changes, IsNothing, ending, nothing, talk, stop_end, BothCauses}
use Rattle.pg_cli.proofs.Common.{Calm, HasCause, stop_status, Expanded, Halt, Refused, Stopped}
use Rattle.pg_cli.proofs.Common.{Grows-then}
use Rattle.pg_messages.specs.declared.refusal.Refusal.TheVariants.{Game, Record as FaultyRecord}
use Rattle.pg_words.specs.declared.family.FamilyTask.TheVariants as tasks
use Rattle.pg_cli.specs.Generating.{searches}
use Rattle.pg_cli.specs.Commands.{Gives, Quiets, Silences, SaysNoMeaning, statuses_of}
use Rattle.pg_talk.specs.Hearing.{Hearing}
use Rattle.pg_cli.specs.Run.{Allows, Declines, RanOn, Ran, CarriesOn, Carries}
use Rattle.pg_talk.proofs.Talking.{Hearing-then, Hearing-said}
use Rattle.pg_cli.proofs.Tasks.{at_place, task_done, task_finishes, task_refuses, task_stops}
use Rattle.pg_results.specs.Ending.{Ends}
use Rattle.pg_results.proofs.Causes.{cause_finished, other_status, refusal_finishes, stop_ends}

-- ---- statuses

-- a command that is done has a status of its own
pub finishes : (command : Option Command) (status : ℕ)
    → Gives command (Ok status)
    → ending status ≡ Finished status
finishes None status gives = absurd gives
finishes (Some (Solve g c positions images)) status (inl is) =
    subst (λ (s : ℕ). ending s ≡ Finished s) (sym is) refl
finishes (Some (Solve g c positions images)) status (inr is) =
    subst (λ (s : ℕ). ending s ≡ Finished s) (sym is) refl
finishes (Some (Check g c)) status gives = task_finishes tasks.Check status gives
finishes (Some (Play g c side)) status gives = task_finishes (tasks.Play side) status gives
finishes (Some (Gen which g c)) status (inl is) =
    subst (λ (s : ℕ). ending s ≡ Finished s) (sym is) refl
finishes (Some (Gen which g c)) status (inr (searched, is)) =
    subst (λ (s : ℕ). ending s ≡ Finished s) (sym is) refl
finishes (Some (Report g c)) status (inl is) =
    subst (λ (s : ℕ). ending s ≡ Finished s) (sym is) refl
finishes (Some (Report g c)) status (inr is) =
    subst (λ (s : ℕ). ending s ≡ Finished s) (sym is) refl
finishes (Some (OfFamily family task g c)) status gives = task_finishes task status gives
finishes (Some (Record g r)) status (inl is) =
    subst (λ (s : ℕ). ending s ≡ Finished s) (sym is) refl
finishes (Some (Record g r)) status (inr is) =
    subst (λ (s : ℕ). ending s ≡ Finished s) (sym is) refl
finishes (Some (Review g r positions)) status (inl is) =
    subst (λ (s : ℕ). ending s ≡ Finished s) (sym is) refl
finishes (Some (Review g r positions)) status (inr is) =
    subst (λ (s : ℕ). ending s ≡ Finished s) (sym is) refl

-- ---- what was done

module _ (command : Option Command) (work : Expanded) (files files' : FilesTold) where
  pub ran_done : (before after : ConsoleTold) (status : ℕ)
      → Carries command work files files' before after (Ok status)
      → Gives command (Ok status)
      → Ran command work files files' before after status
  ran_done before after status carries gives = go files.held carries where
    go : (h : Option Holding)
        → IfSome h (λ held. CarriesOn held command work files' before after (Ok status))
        → IfSome h (λ held. RanOn held command work files' before after (ending status))
    go None on = tt
    go (Some held) (done, acts, changes) =
        subst (λ (end : End). RanOn held command work files' before after end)
        (sym (finishes command status gives)) (done, inr acts, changes)

  module _ (held : Holding) (before mid after : ConsoleTold) where
    declined : (stop : Stop) (done : Done)
        → IsNothing done
        → Declines held command done (stop_end stop)
    declined Read done none = none
    declined Write done none = none
    declined Memory done none = none

    -- what stands against the command is said, or that fails; or the run was stopped
    ended : (halt : Halt) (status : ℕ)
        → CarriesOn held command work files' before mid (Err halt)
        → Ends halt mid after status
        → RanOn held command work files' before after (ending status)
    ended (Refused refusal) status (refuses, changes) (inl (is, says, left, calm)) =
        let heard : Hearing before.left (Said (refusal_text refusal) ∷ []) after.left = subst
        (λ (l : Option Bytes). Hearing before.left (Said (refusal_text refusal) ∷ []) l) (sym left)
        (Hearing-then before.left mid.left mid.left [] (Said (refusal_text refusal) ∷ [])
        changes.talked.heard (Hearing-said mid.left (refusal_text refusal))) in
        let grown : Grows before.log after.log (Said (refusal_text refusal) ∷ []) =
        Grows-then before.log mid.log after.log []
        (Said (refusal_text refusal) ∷ []) changes.talked.logged says in
        let own : ending status ≡ Finished (refusal_status refusal) =
        ap ending is ∙ refusal_finishes refusal in
        subst (λ (end : End). RanOn held command work files' before after end) (sym own) (
          talk (Said (refusal_text refusal) ∷ []),
          inl (refusal, refuses, refl, refl, refl),
          record { talked = record { logged = grown; heard = heard }; names = changes.names },
        )
    ended (Refused refusal) status (refuses, changes) (inr (is, quiet, left, rose)) = subst
        (λ (end : End). RanOn held command work files' before after end) (sym (ap ending is)) (
          nothing,
          inl (refl, refl),
          record {
            talked = record {
              logged = subst (λ (l : Option (List Entry)). Grows before.log l [])
                  (sym quiet) changes.talked.logged;
              heard = (mid.left, changes.talked.heard);
            };
            names = changes.names;
          },
        )
    ended (Stopped stop) status (done, how, changes) (is, same) =
        let own : ending status ≡ stop_end stop = ap ending is ∙ stop_ends stop in
        subst (λ (end : End). RanOn held command work files' before after end) (sym own) (
          done,
          elim how as (λ _. Allows held command work done (stop_end stop)) [
            | inl none ↦ inl (declined stop done none)
            | inr acts ↦ inr acts
          ],
          subst (λ (c : ConsoleTold). Changes held files' before c done (stop_end stop))
              (sym same) changes,
        )

  pub ran_early : (before mid after : ConsoleTold) (halt : Halt) (status : ℕ)
      → Carries command work files files' before mid (Err halt)
      → Ends halt mid after status
      → Ran command work files files' before after status
  ran_early before mid after halt status carries ends = go files.held carries where
    go : (h : Option Holding)
        → IfSome h (λ held. CarriesOn held command work files' before mid (Err halt))
        → IfSome h (λ held. RanOn held command work files' before after (ending status))
    go None on = tt
    go (Some held) on = ended held before mid after halt status on ends

-- ---- what was said at a failed read, and for want of memory

pub silent_done : (command : Option Command) (before after : ConsoleTold) (status : ℕ)
    → Gives command (Ok status)
    → Silences command before after status
silent_done command before after status gives =
    let other = other_status status (finishes command status gives) in
    record { at_read = λ is. absurd (other.0 is); at_memory = λ is. absurd (other.2 is) }

pub silent_early : (command : Option Command) (before mid after : ConsoleTold) (halt : Halt)
    (status : ℕ)
    → Quiets command before mid (Err halt)
    → Ends halt mid after status
    → Silences command before after status
silent_early command before mid after (Refused refusal) status quiets (inl (is, says, left, calm)) =
    let other = other_status status
    (subst (λ (s : ℕ). ending s ≡ Finished s) (sym is) (refusal_finishes refusal)) in
    record { at_read = λ e. absurd (other.0 e); at_memory = λ e. absurd (other.2 e) }
silent_early command before mid after (Refused refusal) status quiets
    (inr (is, quiet, left, rose)) = record {
      at_read = λ e. let f : WRITE_FAILED ≡ READ_FAILED = sym is ∙ e in absurd (cc f);
      at_memory = λ e. let f : WRITE_FAILED ≡ NO_MEMORY = sym is ∙ e in absurd (cc f);
    }
silent_early command before mid after (Stopped Read) status quiets (is, same) = record {
  at_read = λ e. subst (λ (c : ConsoleTold). Quiets command before c (Err (Stopped Read)))
      (sym same) quiets;
  at_memory = λ e. let f : READ_FAILED ≡ NO_MEMORY = sym is ∙ e in absurd (cc f);
}
silent_early command before mid after (Stopped Write) status quiets (is, same) = record {
  at_read = λ e. let f : WRITE_FAILED ≡ READ_FAILED = sym is ∙ e in absurd (cc f);
  at_memory = λ e. let f : WRITE_FAILED ≡ NO_MEMORY = sym is ∙ e in absurd (cc f);
}
silent_early command before mid after (Stopped Memory) status quiets (is, same) = record {
  at_read = λ e. let f : NO_MEMORY ≡ READ_FAILED = sym is ∙ e in absurd (cc f);
  at_memory = λ e. subst (λ (c : ConsoleTold). Quiets command before c (Err (Stopped Memory)))
      (sym same) quiets;
}

-- ---- which statuses

abbrev gen_statuses : Bool → List ℕ
gen_statuses b = if b
    then DONE ∷ UNKNOWN ∷ WRITE_FAILED ∷ NO_MEMORY ∷ []
    else DONE ∷ WRITE_FAILED ∷ NO_MEMORY ∷ []

-- the statuses of a game that is made, by whether it is searched
gen_status : (which : Source) (c : Option Bytes) (P : List ℕ → Type 0)
    → (searches which c ≡ true → P (gen_statuses true))
    → (searches which c ≡ false → P (gen_statuses false))
    → P (gen_statuses (searches which c))
gen_status which c P more fewer = go (searches which c) refl where
  go : (b : Bool) → searches which c ≡ b → P (gen_statuses b)
  go true is = more is
  go false is = fewer is

pub status_done : (command : Option Command) (status : ℕ)
    → Gives command (Ok status)
    → Contains (statuses_of command) status
status_done None status gives = absurd gives
status_done (Some (Solve g c positions images)) status (inl is) =
    at_place (statuses_of (Some (Solve g c positions images))) status DONE is (0, omega arith, refl)
status_done (Some (Solve g c positions images)) status (inr is) = at_place
    (statuses_of (Some (Solve g c positions images))) status UNKNOWN is (1, omega arith, refl)
status_done (Some (Check g c)) status gives = task_done tasks.Check status gives
status_done (Some (Play g c side)) status gives = task_done (tasks.Play side) status gives
status_done (Some (Gen which g c)) status (inl is) = gen_status which c (λ l. Contains l status)
    (λ _. at_place (gen_statuses true) status DONE is (0, omega arith, refl))
    (λ _. at_place (gen_statuses false) status DONE is (0, omega arith, refl))
status_done (Some (Gen which g c)) status (inr (searched, is)) =
    gen_status which c (λ l. Contains l status)
    (λ _. at_place (gen_statuses true) status UNKNOWN is (1, omega arith, refl))
    (λ unsearched. absurd (cc (searched, unsearched)))
status_done (Some (Report g c)) status (inl is) =
    at_place (statuses_of (Some (Report g c))) status DONE is (0, omega arith, refl)
status_done (Some (Report g c)) status (inr is) =
    at_place (statuses_of (Some (Report g c))) status REFUSED is (2, omega arith, refl)
status_done (Some (OfFamily family task g c)) status gives = task_done task status gives
status_done (Some (Record g r)) status (inl is) =
    at_place (statuses_of (Some (Record g r))) status DONE is (0, omega arith, refl)
status_done (Some (Record g r)) status (inr is) =
    at_place (statuses_of (Some (Record g r))) status OUT_OF_REPLIES is (5, omega arith, refl)
status_done (Some (Review g r positions)) status (inl is) =
    at_place (statuses_of (Some (Review g r positions))) status DONE is (0, omega arith, refl)
status_done (Some (Review g r positions)) status (inr is) =
    at_place (statuses_of (Some (Review g r positions))) status UNKNOWN is (1, omega arith, refl)

-- a write that fails ends every command
write_fails : (command : Option Command) → Contains (statuses_of command) WRITE_FAILED
write_fails None = (1, omega arith, refl)
write_fails (Some (Solve g c positions images)) = (4, omega arith, refl)
write_fails (Some (Check g c)) = task_stops tasks.Check Write
write_fails (Some (Play g c side)) = task_stops (tasks.Play side) Write
write_fails (Some (Gen which g c)) = gen_status which c (λ l. Contains l WRITE_FAILED)
    (λ _. (2, omega arith, refl)) (λ _. (1, omega arith, refl))
write_fails (Some (Report g c)) = task_stops tasks.Check Write
write_fails (Some (OfFamily family task g c)) = task_stops task Write
write_fails (Some (Record g r)) = (3, omega arith, refl)
write_fails (Some (Review g r positions)) = (4, omega arith, refl)

refuses : (command : Option Command) (refusal : Refusal)
    → Gives command (Err (Refused refusal))
    → Contains (statuses_of command) (refusal_status refusal)
refuses (Some (Check g c)) refusal gives = task_refuses tasks.Check refusal gives
refuses (Some (Play g c side)) refusal gives = task_refuses (tasks.Play side) refusal gives
refuses None refusal (inl is) =
    let e : refusal ≡ NoMeaning = cc is in
    subst (λ (r : Refusal). Contains (statuses_of None) (refusal_status r)) (sym e)
    (0, omega arith, refl)
refuses None refusal (inr is) = absurd (cc is)
refuses (Some (Solve g c positions images)) NoMeaning gives = absurd gives
refuses (Some (Solve g c positions images)) (NoClaim side) gives = absurd gives
refuses (Some (Solve g c positions images)) (Game number line) gives = (2, omega arith, refl)
refuses (Some (Solve g c positions images)) (Certificate number line) gives = absurd gives
refuses (Some (Solve g c positions images)) (Rejected claim node why) gives = absurd gives
refuses (Some (Solve g c positions images)) (RejectedSpan claim why) gives = absurd gives
refuses (Some (Solve g c positions images)) (RejectedVectors claim node why) gives = absurd gives
refuses (Some (Solve g c positions images)) (RejectedImage claim node why) gives = absurd gives
refuses (Some (Solve g c positions images)) (FaultyRecord number line) gives = absurd gives
refuses (Some (Record g r)) NoMeaning gives = absurd gives
refuses (Some (Record g r)) (NoClaim side) gives = absurd gives
refuses (Some (Record g r)) (Game number line) gives = (1, omega arith, refl)
refuses (Some (Record g r)) (Certificate number line) gives = absurd gives
refuses (Some (Record g r)) (Rejected claim node why) gives = absurd gives
refuses (Some (Record g r)) (RejectedSpan claim why) gives = absurd gives
refuses (Some (Record g r)) (RejectedVectors claim node why) gives = absurd gives
refuses (Some (Record g r)) (RejectedImage claim node why) gives = absurd gives
refuses (Some (Record g r)) (FaultyRecord number line) gives = absurd gives
refuses (Some (Review g r positions)) NoMeaning gives = absurd gives
refuses (Some (Review g r positions)) (NoClaim side) gives = absurd gives
refuses (Some (Review g r positions)) (Game number line) gives = (2, omega arith, refl)
refuses (Some (Review g r positions)) (Certificate number line) gives = absurd gives
refuses (Some (Review g r positions)) (Rejected claim node why) gives = absurd gives
refuses (Some (Review g r positions)) (RejectedSpan claim why) gives = absurd gives
refuses (Some (Review g r positions)) (RejectedVectors claim node why) gives = absurd gives
refuses (Some (Review g r positions)) (RejectedImage claim node why) gives = absurd gives
refuses (Some (Review g r positions)) (FaultyRecord number line) gives = (6, omega arith, refl)
refuses (Some (Gen which g c)) refusal gives = absurd gives
refuses (Some (Report g c)) refusal gives = task_refuses tasks.Check refusal gives
refuses (Some (OfFamily family task g c)) refusal gives = task_refuses task refusal gives

stops : (command : Option Command) (stop : Stop)
    → Gives command (Err (Stopped stop))
    → Contains (statuses_of command) (stop_status stop)
stops (Some (Check g c)) stop gives = task_stops tasks.Check stop
stops (Some (Play g c side)) stop gives = task_stops (tasks.Play side) stop
stops None stop (inl is) = absurd (cc is)
stops None stop (inr is) =
    let e : stop ≡ Memory = cc is in
    subst (λ (s : Stop). Contains (statuses_of None) (stop_status s)) (sym e) (2, omega arith, refl)
stops (Some (Solve g c positions images)) Read gives = (3, omega arith, refl)
stops (Some (Solve g c positions images)) Write gives = (4, omega arith, refl)
stops (Some (Solve g c positions images)) Memory gives = (5, omega arith, refl)
stops (Some (Gen which g c)) Read gives = absurd gives
stops (Some (Gen which g c)) Write gives = write_fails (Some (Gen which g c))
stops (Some (Gen which g c)) Memory gives = gen_status which c (λ l. Contains l NO_MEMORY)
    (λ _. (3, omega arith, refl)) (λ _. (2, omega arith, refl))
stops (Some (Report g c)) stop gives = task_stops tasks.Check stop
stops (Some (OfFamily family task g c)) stop gives = task_stops task stop
stops (Some (Record g r)) Read gives = (2, omega arith, refl)
stops (Some (Record g r)) Write gives = (3, omega arith, refl)
stops (Some (Record g r)) Memory gives = (4, omega arith, refl)
stops (Some (Review g r positions)) Read gives = (3, omega arith, refl)
stops (Some (Review g r positions)) Write gives = (4, omega arith, refl)
stops (Some (Review g r positions)) Memory gives = (5, omega arith, refl)

pub status_early : (command : Option Command) (before after : ConsoleTold) (halt : Halt)
    (status : ℕ)
    → Gives command (Err halt)
    → Ends halt before after status
    → Contains (statuses_of command) status
status_early command before after (Refused refusal) status gives (inl ends) = at_place
    (statuses_of command) status (refusal_status refusal) ends.0 (refuses command refusal gives)
status_early command before after (Refused refusal) status gives (inr ends) =
    at_place (statuses_of command) status WRITE_FAILED ends.0 (write_fails command)
status_early command before after (Stopped stop) status gives ends =
    at_place (statuses_of command) status (stop_status stop) ends.0 (stops command stop gives)

-- ---- words without a meaning

pub meaningless_early : (command : Option Command) (before mid after : ConsoleTold) (halt : Halt)
    (status : ℕ)
    → Gives command (Err halt)
    → Quiets command before mid (Err halt)
    → Ends halt mid after status
    → command ≡ None
    → SaysNoMeaning before after status
meaningless_early command before mid after halt status gives quiets ends none =
    go halt (subst (λ (c : Option Command). Gives c (Err halt)) none gives)
    (subst (λ (c : Option Command). Quiets c before mid (Err halt)) none quiets) ends
  where
    go : (halt : Halt)
        → Gives None (Err halt)
        → Quiets None before mid (Err halt)
        → Ends halt mid after status
        → SaysNoMeaning before after status
    go (Refused refusal) (inl is) quiets (inl (same, says, left, calm)) =
        let e : refusal ≡ NoMeaning = cc is in
        let status_is : status ≡ NO_MEANING = same ∙ ap refusal_status e in
        let grown =
        Grows-then before.log mid.log after.log [] (Said (refusal_text refusal) ∷ []) quiets says in
        record {
          said = λ _. subst
              (λ (r : Refusal). Grows before.log after.log (Said (refusal_text r) ∷ [])) e grown;
          stopped = λ other. absurd (other status_is);
        }
    go (Refused refusal) (inl is) quiets (inr (same, quiet, left, rose)) = record {
      said = λ e. let f : WRITE_FAILED ≡ NO_MEANING = sym same ∙ e in absurd (cc f);
      stopped = λ _. subst (λ (l : Option (List Entry)). Grows before.log l []) (sym quiet) quiets;
    }
    go (Refused refusal) (inr is) quiets ends = absurd (cc is)
    go (Stopped stop) (inl is) quiets ends = absurd (cc is)
    go (Stopped stop) (inr is) quiets ends =
        let e : stop ≡ Memory = cc is in
        let status_is : status ≡ NO_MEMORY = ends.0 ∙ ap stop_status e in
        let quiet = subst (λ (s : Stop). Quiets None before mid (Err (Stopped s))) e quiets in
        record {
          said = λ f. let h : NO_MEMORY ≡ NO_MEANING = sym status_is ∙ f in absurd (cc h);
          stopped = λ _. subst (λ (c : ConsoleTold). Grows before.log c.log []) (sym ends.1) quiet;
        }

-- ---- causes

pub cause_done : (absent : Type 0) (command : Option Command) (files files' : FilesTold)
    (before after : ConsoleTold) (status : ℕ)
    → BothCauses absent files files' before after (Ok status)
    → Gives command (Ok status)
    → HasCause absent files files' before after status
cause_done absent command files files' before after status calm gives =
    cause_finished absent files files' before after status calm (finishes command status gives)
