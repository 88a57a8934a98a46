-- Runs that only read files and talk.
use Rattle.std.proofs.Common.{◌≡◌, ℕ, Option, Some, None, Result, Ok, Err, refl, sym, subst, inl}
use Rattle.std.proofs.Common.{inr}
use Rattle.pg_cli.proofs.Common.{ConsoleTold, Bytes, Holding, FilesTold, ReadsOnly, Read, Write}
use Rattle.pg_cli.proofs.Common.{Memory, Side, Game, Evidence, Refusal, Command, Solve, Check, Play}
use Rattle.pg_cli.proofs.Common.{Gen, Report, OfFamily, Record, Review, Expanded, Performs, Halt}
use Rattle.pg_cli.proofs.Common.{Refused, Stopped, runs_halt, runs_read, Grows-nothing}
use Rattle.pg_files.specs.GameFile.{Entry as GameEntry}
use Rattle.pg_cli.specs.Checking.{RefusesCheck, AcceptsAll}
use Rattle.pg_cli.specs.Commands.{Gives, LeavesFiles, LeavesWork, Quiets, SpeaksInTime}
use Rattle.pg_cli.specs.Playing.{RefusesPlay, PlaysOn}
use Rattle.pg_cli.specs.Reading.{both_held, pair_entry, read_of, OpensBoth}
use Rattle.pg_cli.specs.Reporting.{RefusesReport, Reports}
use Rattle.pg_cli.specs.Run.{Refuses, Acts, Carries}
use Rattle.pg_talk.proofs.Openings.{opened_two, not_opened_two}
use Rattle.pg_cli.proofs.Tasks.{task_leaves, task_memory, task_quiet}

-- ---- a game and a certificate that were read, for a check and for a play

module _ (files files' : FilesTold) (g c : Bytes) (pair : Game × Evidence)
    (before after : ConsoleTold) (same : files'.held ≡ files.held)
    (opens : OpensBoth files.held g c (Ok pair)) where
  read_both : (held : Holding)
      → files.held ≡ Some held
      → both_held (held g) (held c) ≡ read_of pair.0 pair.1
  read_both held is = opened_two pair_entry both_held files.held g c held is pair opens

  pub carries_check : (work : Expanded) (r : Result ℕ Halt)
      → Performs (RefusesCheck (read_of pair.0 pair.1))
      (AcceptsAll (read_of pair.0 pair.1)) before after r
      → Carries (Some (Check g c)) work files files' before after r
  carries_check work r performs =
      runs_read files files' same RefusesCheck AcceptsAll (λ held. both_held (held g) (held c))
      (read_of pair.0 pair.1) read_both before after r performs

  pub carries_play : (side : Side) (work : Expanded) (r : Result ℕ Halt)
      → Performs (RefusesPlay side (read_of pair.0 pair.1))
      (PlaysOn side (read_of pair.0 pair.1)) before after r
      → Carries (Some (Play g c side)) work files files' before after r
  carries_play side work r performs = runs_read files files' same (RefusesPlay side) (PlaysOn side)
      (λ held. both_held (held g) (held c))
      (read_of pair.0 pair.1) read_both before after r performs

  pub carries_report : (work : Expanded) (r : Result ℕ Halt)
      → Performs (RefusesReport (read_of pair.0 pair.1))
      (Reports (read_of pair.0 pair.1)) before after r
      → Carries (Some (Report g c)) work files files' before after r
  carries_report work r performs =
      runs_read files files' same RefusesReport Reports (λ held. both_held (held g) (held c))
      (read_of pair.0 pair.1) read_both before after r performs

-- ---- a command that ends while it reads

module _ (files files' : FilesTold) (console : ConsoleTold) (same : files'.held ≡ files.held) where
  -- nothing was said, and what stands against the command was read
  pub carries_halt : (command : Option Command) (work : Expanded) (halt : Halt)
      → ((held : Holding) (refusal : Refusal) → files.held ≡ Some held
      → halt ≡ Refused refusal
      → Refuses held command refusal)
      → Carries command work files files' console console (Err halt)
  carries_halt command work halt against = runs_halt files files' same
      (λ held. Refuses held command) (λ held. Acts held command work) console halt against

  module _ (g c : Bytes) (work : Expanded) (halt : Halt)
      (opens : OpensBoth files.held g c (Err halt)) where
    -- what was read stands against the commands that read a game and a certificate
    read_refusal : (held : Holding) (refusal : Refusal)
        → files.held ≡ Some held
        → halt ≡ Refused refusal
        → both_held (held g) (held c) ≡ Err (Refused refusal)
    read_refusal held refusal is this =
        not_opened_two pair_entry both_held files.held g c held is halt refusal this opens

    pub halted_check : Carries (Some (Check g c)) work files files' console console (Err halt)
    halted_check = carries_halt (Some (Check g c)) work halt (λ held refusal is this.
        subst (λ (read : Result (GameEntry × Evidence) Halt). RefusesCheck read refusal)
        (sym (read_refusal held refusal is this)) refl)

    pub halted_play : (side : Side)
        → Carries (Some (Play g c side)) work files files' console console (Err halt)
    halted_play side = carries_halt (Some (Play g c side)) work halt (λ held refusal is this.
        subst (λ (read : Result (GameEntry × Evidence) Halt). RefusesPlay side read refusal)
        (sym (read_refusal held refusal is this)) refl)

    pub halted_report : Carries (Some (Report g c)) work files files' console console (Err halt)
    halted_report = carries_halt (Some (Report g c)) work halt read_refusal

-- ---- quiet

pub quiet_halt : (command : Option Command) (console : ConsoleTold) (halt : Halt)
    → Quiets command console console (Err halt)
quiet_halt command console (Refused refusal) = Grows-nothing console.log
quiet_halt (Some (Play g c side)) console (Stopped Read) = tt
quiet_halt None console (Stopped Read) = Grows-nothing console.log
quiet_halt (Some (Check g c)) console (Stopped Read) = Grows-nothing console.log
quiet_halt (Some (Solve g c positions images)) console (Stopped Read) = Grows-nothing console.log
quiet_halt (Some (Gen which g c)) console (Stopped Read) = Grows-nothing console.log
quiet_halt (Some (Report g c)) console (Stopped Read) = Grows-nothing console.log
quiet_halt (Some (OfFamily family task g c)) console (Stopped Read) = task_quiet task console
quiet_halt (Some (Record g r)) console (Stopped Read) = tt
quiet_halt (Some (Review g r positions)) console (Stopped Read) = Grows-nothing console.log
quiet_halt command console (Stopped Write) = tt
quiet_halt None console (Stopped Memory) = Grows-nothing console.log
quiet_halt (Some (Solve g c positions images)) console (Stopped Memory) = Grows-nothing console.log
quiet_halt (Some (Check g c)) console (Stopped Memory) = Grows-nothing console.log
quiet_halt (Some (Play g c side)) console (Stopped Memory) = Grows-nothing console.log
quiet_halt (Some (Gen which g None)) console (Stopped Memory) = Grows-nothing console.log
quiet_halt (Some (Gen which g (Some c))) console (Stopped Memory) = inl (Grows-nothing console.log)
quiet_halt (Some (Report g c)) console (Stopped Memory) = Grows-nothing console.log
quiet_halt (Some (OfFamily family task g c)) console (Stopped Memory) = Grows-nothing console.log
quiet_halt (Some (Record g r)) console (Stopped Memory) = tt
quiet_halt (Some (Review g r positions)) console (Stopped Memory) = tt

-- ---- words

-- memory for the words is wanting
pub carries_memory : (files : FilesTold) (console : ConsoleTold) (command : Option Command)
    (work : Expanded)
    → Carries command work files files console console (Err (Stopped Memory))
carries_memory files console command work = carries_halt files files console refl command work
    (Stopped Memory) (λ held refusal is this. absurd (cc this))

module _ (command : Option Command) where
  pub leaves_all : (files : FilesTold) → LeavesFiles command files files
  leaves_all files = go command where
    reads : ReadsOnly files files
    reads = record { held = refl; making = refl; busy = refl }

    go : (command : Option Command) → LeavesFiles command files files
    go None = reads
    go (Some (Solve g c positions images)) = inl reads
    go (Some (Check g c)) = reads
    go (Some (Play g c side)) = reads
    go (Some (Gen which g c)) = inl reads
    go (Some (Report g c)) = reads
    go (Some (OfFamily family task g c)) = task_leaves task c files reads
    go (Some (Record g r)) = inl reads
    go (Some (Review g r positions)) = reads

  pub leaves_work : (told : Option Holding) (work : Expanded) → LeavesWork told command work work
  leaves_work told work = go command where
    go : (command : Option Command) → LeavesWork told command work work
    go None = refl
    go (Some (Solve g c None images)) = inl refl
    go (Some (Solve g c (Some positions) images)) = inl refl
    go (Some (Check g c)) = refl
    go (Some (Play g c side)) = refl
    go (Some (Gen which g c)) = ((λ none. refl), inl refl)
    go (Some (Report g c)) = refl
    go (Some (OfFamily family task g c)) = refl
    go (Some (Record g r)) = refl
    go (Some (Review g r None)) = inl refl
    go (Some (Review g r (Some positions))) = inl refl

  pub speaks_in_time : (told : Option Holding) (work : Expanded) (console : ConsoleTold)
      → SpeaksInTime told command work work console console
  speaks_in_time told work console = go command where
    go : (command : Option Command) → SpeaksInTime told command work work console console
    go None = tt
    go (Some (Solve g c positions images)) = tt
    go (Some (Check g c)) = tt
    go (Some (Play g c side)) = tt
    go (Some (Gen which g c)) = tt
    go (Some (Report g c)) = tt
    go (Some (OfFamily family task g c)) = tt
    go (Some (Record g r)) = tt
    go (Some (Review g r None)) = inl refl
    go (Some (Review g r (Some positions))) = inl refl

  pub gives_memory : Gives command (Err (Stopped Memory))
  gives_memory = go command where
    go : (command : Option Command) → Gives command (Err (Stopped Memory))
    go None = inr refl
    go (Some (Solve g c positions images)) = tt
    go (Some (Check g c)) = tt
    go (Some (Play g c side)) = tt
    go (Some (Gen which g c)) = tt
    go (Some (Report g c)) = tt
    go (Some (OfFamily family task g c)) = task_memory task
    go (Some (Record g r)) = tt
    go (Some (Review g r positions)) = tt
