-- What a task done with a game of a family gives, says and leaves; a check and a play of any other
-- game have the same statuses.
use Rattle.std.proofs.Common.{◌≡◌, ℕ, List, Ok, Err, refl, sym, subst, inl, inr, arith}
use Rattle.pg_cli.proofs.Common.{Contains, ConsoleTold, Bytes, FilesTold, ReadsOnly, Stop, Read}
use Rattle.pg_cli.proofs.Common.{Write, Memory, refusal_status, Refusal, NoMeaning, NoClaim}
use Rattle.pg_cli.proofs.Common.{Certificate, Rejected, RejectedSpan, RejectedVectors}
use Rattle.pg_cli.proofs.Common.{RejectedImage, DONE, INPUT_ENDED, OUT_OF_REPLIES, FamilyTask}
use Rattle.pg_cli.proofs.Common.{GivesInFamily, LeavesFamilyFiles, QuietAtReadInFamily}
use Rattle.pg_cli.proofs.Common.{statuses_in_family, Finished, ending, stop_status, Refused}
use Rattle.pg_cli.proofs.Common.{Stopped, Grows-nothing}
use Rattle.pg_messages.specs.declared.refusal.Refusal.TheVariants.{Game, Record}
use Rattle.pg_words.specs.declared.family.FamilyTask.TheVariants.{Solve, Check, Play}

-- ---- statuses

pub at_place : (l : List ℕ) (n m : ℕ) → n ≡ m → Contains l m → Contains l n
at_place l n m is there = subst (λ (s : ℕ). Contains l s) (sym is) there

-- a task that is done has a status of its own
pub task_finishes : (task : FamilyTask) (status : ℕ)
    → GivesInFamily task (Ok status)
    → ending status ≡ Finished status
task_finishes Solve status is = subst (λ (s : ℕ). ending s ≡ Finished s) (sym is) refl
task_finishes Check status is = subst (λ (s : ℕ). ending s ≡ Finished s) (sym is) refl
task_finishes (Play side) status (inl is) = subst (λ (s : ℕ). ending s ≡ Finished s) (sym is) refl
task_finishes (Play side) status (inr (inl is)) =
    subst (λ (s : ℕ). ending s ≡ Finished s) (sym is) refl
task_finishes (Play side) status (inr (inr is)) =
    subst (λ (s : ℕ). ending s ≡ Finished s) (sym is) refl

pub task_done : (task : FamilyTask) (status : ℕ)
    → GivesInFamily task (Ok status)
    → Contains (statuses_in_family task) status
task_done Solve status is =
    at_place (statuses_in_family Solve) status DONE is (0, omega arith, refl)
task_done Check status is =
    at_place (statuses_in_family Check) status DONE is (0, omega arith, refl)
task_done (Play side) status (inl is) =
    at_place (statuses_in_family (Play side)) status DONE is (0, omega arith, refl)
task_done (Play side) status (inr (inl is)) =
    at_place (statuses_in_family (Play side)) status INPUT_ENDED is (7, omega arith, refl)
task_done (Play side) status (inr (inr is)) =
    at_place (statuses_in_family (Play side)) status OUT_OF_REPLIES is (8, omega arith, refl)

-- what stops a task has a status of its table
pub task_stops : (task : FamilyTask) (stop : Stop)
    → Contains (statuses_in_family task) (stop_status stop)
task_stops Solve Read = (2, omega arith, refl)
task_stops Solve Write = (3, omega arith, refl)
task_stops Solve Memory = (4, omega arith, refl)
task_stops Check Read = (3, omega arith, refl)
task_stops Check Write = (4, omega arith, refl)
task_stops Check Memory = (5, omega arith, refl)
task_stops (Play side) Read = (4, omega arith, refl)
task_stops (Play side) Write = (5, omega arith, refl)
task_stops (Play side) Memory = (6, omega arith, refl)

-- and so has what stands against it
pub task_refuses : (task : FamilyTask) (refusal : Refusal)
    → GivesInFamily task (Err (Refused refusal))
    → Contains (statuses_in_family task) (refusal_status refusal)
task_refuses Solve NoMeaning gives = absurd gives
task_refuses Solve (NoClaim side) gives = absurd gives
task_refuses Solve (Game number line) gives = (1, omega arith, refl)
task_refuses Solve (Certificate number line) gives = absurd gives
task_refuses Solve (Rejected claim node why) gives = absurd gives
task_refuses Solve (RejectedSpan claim why) gives = absurd gives
task_refuses Solve (RejectedVectors claim node why) gives = absurd gives
task_refuses Solve (RejectedImage claim node why) gives = absurd gives
task_refuses Solve (Record number line) gives = absurd gives
task_refuses Check NoMeaning gives = absurd gives
task_refuses Check (NoClaim side) gives = absurd gives
task_refuses Check (Game number line) gives = (1, omega arith, refl)
task_refuses Check (Certificate number line) gives = (2, omega arith, refl)
task_refuses Check (Rejected claim node why) gives = (2, omega arith, refl)
task_refuses Check (RejectedSpan claim why) gives = (2, omega arith, refl)
task_refuses Check (RejectedVectors claim node why) gives = (2, omega arith, refl)
task_refuses Check (RejectedImage claim node why) gives = (2, omega arith, refl)
task_refuses Check (Record number line) gives = absurd gives
task_refuses (Play side) NoMeaning gives = absurd gives
task_refuses (Play side) (NoClaim other) gives = (1, omega arith, refl)
task_refuses (Play side) (Game number line) gives = (2, omega arith, refl)
task_refuses (Play side) (Certificate number line) gives = (3, omega arith, refl)
task_refuses (Play side) (Rejected claim node why) gives = (3, omega arith, refl)
task_refuses (Play side) (RejectedSpan claim why) gives = (3, omega arith, refl)
task_refuses (Play side) (RejectedVectors claim node why) gives = (3, omega arith, refl)
task_refuses (Play side) (RejectedImage claim node why) gives = (3, omega arith, refl)
task_refuses (Play side) (Record number line) gives = absurd gives

-- ---- where memory for the words is wanting

pub task_quiet : (task : FamilyTask) (console : ConsoleTold)
    → QuietAtReadInFamily task console console
task_quiet Solve console = Grows-nothing console.log
task_quiet Check console = Grows-nothing console.log
task_quiet (Play side) console = tt

pub task_leaves : (task : FamilyTask) (c : Bytes) (files : FilesTold)
    → ReadsOnly files files
    → LeavesFamilyFiles task c files files
task_leaves Solve c files reads = inl reads
task_leaves Check c files reads = reads
task_leaves (Play side) c files reads = reads

pub task_memory : (task : FamilyTask) → GivesInFamily task (Err (Stopped Memory))
task_memory Solve = tt
task_memory Check = tt
task_memory (Play side) = tt
