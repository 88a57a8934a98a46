-- What a game against the program does, put together.
use Rattle.std.proofs.Common.{◌≡◌, ℕ, Option, Some, None, Result}
use Rattle.std.proofs.Common.{Ok, Err, refl, sym, subst, inl, inr}
use Rattle.std.specs.Prelude.{IfSome, ⊤}
use Rattle.pg_duel.proofs.Common.{Bytes, ConsoleTold, Done, End, Evidence, FilesTold, Finished}
use Rattle.pg_duel.proofs.Common.{FollowsOn, Game, Halt, Holding, Look, Memory, QuietsBy, Read}
use Rattle.pg_duel.proofs.Common.{Refusal, Refused, Runs, Side, Starved, Stopped, Write, kept}
use Rattle.pg_duel.proofs.Common.{not_opened_two, opened_two, runs_halt, silent, stop_end}
use Rattle.pg_files.specs.GameFile.{Entry as GameEntry}
use Rattle.pg_playing.specs.Playing.{GivesTable}
use Rattle.pg_evidence.specs.Evidence.{IsInnerHalt}
use Rattle.pg_evidence.specs.Standing.{MakesStanding}
use Rattle.pg_messages.specs.declared.refusal.Refusal.TheVariants as refusals
use Rattle.pg_talk.specs.Done.{nothing}
use Rattle.pg_talk.specs.Halts.{BothCauses, IsPlayHalt, IsReadHalt}
use Rattle.pg_talk.proofs.Speaking.{Grows-nothing}
use Rattle.pg_duel.specs.Dueling.{Duels, GivesDuel, OpensBoth, PlaysBy}
use Rattle.pg_duel.specs.Dueling.{Refuses, RefusesBy, RunsOn, both_held, pair_entry}
use Rattle.pg_duel.specs.Prelude.{turned_to}

-- ---- work that does or refuses in one way does so in another

pub runs_more : (Against More : Refusal → Type 0) (Act Acts : Done → End → Type 0)
    → ((refusal : Refusal) → Against refusal → More refusal)
    → ((done : Done) (end : End) → Act done end → Acts done end)
    → (files files' : FilesTold) (before after : ConsoleTold) (r : Result ℕ Halt)
    → RunsOn Against Act files files' before after r
    → RunsOn More Acts files files' before after r
runs_more Against More Act Acts against act files files' before after r runs = go files.held r runs
  where
    go : (h : Option Holding) (r : Result ℕ Halt)
        → IfSome h (λ held. FollowsOn Against Act held files' before after r)
        → IfSome h (λ held. FollowsOn More Acts held files' before after r)
    go None r runs = tt
    go (Some held) (Ok status) (done, acts, changes) =
        (done, act done (Finished status) acts, changes)
    go (Some held) (Err (Refused refusal)) (stands, changes) = (against refusal stands, changes)
    go (Some held) (Err (Stopped stop)) (done, inl none, changes) = (done, inl none, changes)
    go (Some held) (Err (Stopped stop)) (done, inr acts, changes) =
        (done, inr (act done (stop_end stop) acts), changes)

-- nothing was done, and this stands against it
pub refuses_now : (Against : Refusal → Type 0) (Act : Done → End → Type 0) (files : FilesTold)
    (console : ConsoleTold) (refusal : Refusal)
    → Against refusal
    → RunsOn Against Act files files console console (Err (Refused refusal))
refuses_now Against Act files console refusal against = go files.held refl where
  go : (h : Option Holding)
      → files.held ≡ h
      → IfSome h (λ held. FollowsOn Against Act held files console console (Err (Refused refusal)))
  go None is = tt
  go (Some held) is = (
    against,
    record { talked = silent Starved console console refl refl; names = kept held files.held is },
  )

-- nothing was done, and memory ran out
pub starves_now : (Against : Refusal → Type 0) (Act : Done → End → Type 0) (files : FilesTold)
    (console : ConsoleTold)
    → RunsOn Against Act files files console console (Err (Stopped Memory))
starves_now Against Act files console = go files.held refl where
  go : (h : Option Holding)
      → files.held ≡ h
      → IfSome h (λ held. FollowsOn Against Act held files console console (Err (Stopped Memory)))
  go None is = tt
  go (Some held) is = (
    nothing,
    inl (refl, refl),
    record { talked = silent Starved console console refl refl; names = kept held files.held is },
  )

-- ---- the call

abbrev pub AgainstHeld : Option Side → Option Side → Bytes → Bytes → Holding → Refusal → Type 0
AgainstHeld turn asked game certificate held refusal =
    Refuses turn asked (both_held (held game) (held certificate)) refusal

abbrev pub DuelsHeld : Look
    → Option Side
    → Option Side
    → Bytes
    → Bytes
    → Option Bytes
    → Holding
    → Done
    → End
    → Type 0
DuelsHeld look turn asked game certificate path held =
    Duels look turn asked (both_held (held game) (held certificate)) path

module _ (look : Look) (turn asked : Option Side) (game certificate : Bytes) (path : Option Bytes)
    (files mid : FilesTold) (same : mid.held ≡ files.held) where
  -- the files weren't read
  pub duel_halted : (console : ConsoleTold) (halt : Halt)
      → OpensBoth files.held game certificate (Err halt)
      → Runs (AgainstHeld turn asked game certificate)
      (DuelsHeld look turn asked game certificate path) files mid console console (Err halt)
  duel_halted console halt opens = runs_halt files mid same
      (AgainstHeld turn asked game certificate) (DuelsHeld look turn asked game certificate path)
      console halt (λ held refusal is this. subst
      (λ (read : Result (GameEntry × Evidence) Halt). Refuses turn asked read refusal)
      (sym (not_opened_two pair_entry both_held files.held game certificate held is halt refusal
      this opens)) refl)

  -- what was read was played
  pub duel_runs : (g : Game) (e : Evidence) (files' : FilesTold) (before after : ConsoleTold)
      (r : Result ℕ Halt)
      → OpensBoth files.held game certificate (Ok (g, e))
      → RunsOn (RefusesBy asked (turned_to g turn) e)
      (PlaysBy look asked (turned_to g turn) e path) mid files' before after r
      → Runs (AgainstHeld turn asked game certificate)
      (DuelsHeld look turn asked game certificate path) files files' before after r
  duel_runs g e files' before after r opens runs = go files.held refl r
      (subst (λ (h : Option Holding). IfSome h
      (λ held. FollowsOn (RefusesBy asked (turned_to g turn) e)
      (PlaysBy look asked (turned_to g turn) e path) held files' before after r)) same runs)
    where
      read : (held : Holding)
          → files.held ≡ Some held
          → both_held (held game) (held certificate) ≡ Ok (pair_entry (g, e))
      read held is =
          opened_two pair_entry both_held files.held game certificate held is (g, e) opens

      acts : (held : Holding)
          → files.held ≡ Some held
          → (done : Done) (end : End) → PlaysBy look asked (turned_to g turn) e path done end
          → DuelsHeld look turn asked game certificate path held done end
      acts held is done end plays =
          subst (λ (read : Result (GameEntry × Evidence) Halt). Duels look turn asked read path
          done end) (sym (read held is)) (g, refl, plays)

      go : (h : Option Holding)
          → files.held ≡ h
          → (r : Result ℕ Halt)
          → IfSome h
          (λ held. FollowsOn (RefusesBy asked (turned_to g turn) e)
          (PlaysBy look asked (turned_to g turn) e path) held files' before after r)
          → IfSome h
          (λ held. FollowsOn (AgainstHeld turn asked game certificate held)
          (DuelsHeld look turn asked game certificate path held) held files' before after r)
      go None is r runs = tt
      go (Some held) is (Ok status) (done, act, changes) =
          (done, acts held is done (Finished status) act, changes)
      go (Some held) is (Err (Refused refusal)) (against, changes) = (
        subst (λ (read : Result (GameEntry × Evidence) Halt). Refuses turn asked read refusal)
            (sym (read held is)) (g, refl, against),
        changes,
      )
      go (Some held) is (Err (Stopped stop)) (done, inl none, changes) = (done, inl none, changes)
      go (Some held) is (Err (Stopped stop)) (done, inr act, changes) =
          (done, inr (acts held is done (stop_end stop) act), changes)

-- ---- how it ends

pub table_gives : (r : Result ℕ Halt) → GivesTable r → GivesDuel r
table_gives (Ok status) gives = gives
table_gives (Err (Refused refusal)) gives = absurd gives
table_gives (Err (Stopped stop)) gives = tt

-- ---- a certificate that stands for none

pub unmade_runs : (asked : Option Side) (look : Look) (g : Game) (e : Evidence)
    (path : Option Bytes) (files : FilesTold) (console : ConsoleTold) (halt : Halt)
    → MakesStanding g e (Err halt)
    → IsInnerHalt halt
    → RunsOn (RefusesBy asked g e) (PlaysBy look asked g e path) files files console console
    (Err halt)
unmade_runs asked look g e path files console (Refused refusal) made inner =
    refuses_now (RefusesBy asked g e) (PlaysBy look asked g e path) files console refusal
    (inl (inl made))
unmade_runs asked look g e path files console (Stopped Read) made inner = absurd inner
unmade_runs asked look g e path files console (Stopped Write) made inner = absurd inner
unmade_runs asked look g e path files console (Stopped Memory) made inner =
    starves_now (RefusesBy asked g e) (PlaysBy look asked g e path) files console

pub unmade_calm : (files : FilesTold) (console : ConsoleTold) (halt : Halt)
    → IsInnerHalt halt
    → BothCauses ⊥ files files console console (Err halt)
unmade_calm files console (Refused refusal) inner =
    record { on_files = refl; on_console = refl }
unmade_calm files console (Stopped Read) inner = absurd inner
unmade_calm files console (Stopped Write) inner = absurd inner
unmade_calm files console (Stopped Memory) inner =
    record { on_files = refl; on_console = refl }

pub unmade_quiet : (console : ConsoleTold) (halt : Halt)
    → QuietsBy ⊤ ⊤ console console (Err halt)
unmade_quiet console (Refused refusal) = Grows-nothing console.log
unmade_quiet console (Stopped Read) = tt
unmade_quiet console (Stopped Write) = tt
unmade_quiet console (Stopped Memory) = tt

pub unmade_gives : (halt : Halt) → IsInnerHalt halt → IsPlayHalt halt
unmade_gives (Refused refusals.NoMeaning) inner = absurd inner
unmade_gives (Refused (refusals.NoClaim side)) inner = absurd inner
unmade_gives (Refused (refusals.Game number line)) inner = tt
unmade_gives (Refused (refusals.Certificate number line)) inner = tt
unmade_gives (Refused (refusals.Rejected claim node why)) inner = tt
unmade_gives (Refused (refusals.RejectedSpan claim why)) inner = tt
unmade_gives (Refused (refusals.RejectedVectors claim node why)) inner = tt
unmade_gives (Refused (refusals.RejectedImage claim node why)) inner = tt
unmade_gives (Refused (refusals.Record number line)) inner = absurd inner
unmade_gives (Stopped stop) inner = tt

-- what can end reading can end the game
pub read_gives : (halt : Halt) → IsReadHalt halt → IsPlayHalt halt
read_gives (Refused refusals.NoMeaning) read = absurd read
read_gives (Refused (refusals.NoClaim side)) read = absurd read
read_gives (Refused (refusals.Game number line)) read = tt
read_gives (Refused (refusals.Certificate number line)) read = tt
read_gives (Refused (refusals.Rejected claim node why)) read = tt
read_gives (Refused (refusals.RejectedSpan claim why)) read = tt
read_gives (Refused (refusals.RejectedVectors claim node why)) read = tt
read_gives (Refused (refusals.RejectedImage claim node why)) read = tt
read_gives (Refused (refusals.Record number line)) read = absurd read
read_gives (Stopped stop) read = tt
