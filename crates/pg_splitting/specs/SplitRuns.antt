-- WHAT A RUN THAT SPLITS A GAME IS.
use Rattle.std.specs.Prelude.{◌≡◌, ◌≢◌, ◌⊎◌, ℕ, List, [], ◌∷◌, ◌++◌, Result, Ok, Err}
use Rattle.std.specs.Prelude.{IfSome}
use Rattle.std.specs.Prelude.{reverse, ⊤}
use Rattle.pg_files.specs.GameFile.{Entry as GameEntry}
use Rattle.pg_game.specs.declared.game.Game.{Game}
use Rattle.pg_io.specs.Causes.{Rose}
use Rattle.pg_io.specs.Console.{ConsoleTold, Grows}
use Rattle.pg_io.specs.Files.{Bytes, FilesTold, Holding, Making, ReadsOnly}
use Rattle.pg_io.specs.declared.entry.Entry.{Entry}
use Rattle.pg_io.specs.declared.entry.Entry.TheVariants.{Said}
use Rattle.pg_io.specs.declared.stop.Stop.TheVariants.{Memory, Read, Write}
use Rattle.pg_messages.specs.declared.statuses.TheConstants.{DONE, FAULTY_GAME, NO_MEMORY}
use Rattle.pg_messages.specs.declared.statuses.TheConstants.{READ_FAILED, REFUSED, WRITE_FAILED}
use Rattle.pg_results.specs.GameRuns.{DeclinesGame}
use Rattle.pg_split.specs.declared.numbering.Split.{Split}
use Rattle.pg_talk.specs.Done.{Changes, Done, End, Failed, Finished, IsNothing, Starved, ending}
use Rattle.pg_talk.specs.Done.{talk}
use Rattle.pg_talk.specs.Halts.{HaltCauses, IsGameHalt, IsWriteHalt, ReadCause, WriteCause}
use Rattle.pg_talk.specs.Opening.{IsSaidBy, game_held}
use Rattle.pg_talk.specs.declared.halt.Halt.{Halt}
use Rattle.pg_talk.specs.declared.halt.Halt.TheVariants.{Refused, Stopped}
use Rattle.pg_splitting.specs.Prepared.{IsDeclined, IsPreparedAs}
use Rattle.pg_splitting.specs.SplitFiles.{split_files}
use Rattle.pg_splitting.specs.Texts.{decline_text, split_text}
use Rattle.pg_splitting.specs.declared.preparing.Decline.{Decline}

-- this was said and stored, the last file first
abbrev pub done_so : List Entry → List Making → Done
done_so entries stored = record { entries = entries; stored = stored }

-- the first of these files were stored, and nothing was said
abbrev pub StoresFirst : List Making → Done → Type 0
StoresFirst files done = (front : List Making) × (rest : List Making)
    × (files ≡ front ++ rest)
    × (done ≡ done_so [] (reverse front))

-- all files are stored in order, and then it is said how many positions there are; where the run
-- is stopped, the first of the files are stored
abbrev pub DeliversSplit : Bytes → Game → Split → Done → End → Type 0
DeliversSplit folder g split done (Finished status) =
    (done ≡ done_so (Said (split_text g split.pieces.items) ∷ [])
    (reverse (split_files folder g split)))
    × (status ≡ DONE)
DeliversSplit folder g split done Failed = StoresFirst (split_files folder g split) done
DeliversSplit folder g split done Starved = StoresFirst (split_files folder g split) done

-- it is said why the game isn't split
abbrev pub Declines : Decline → Done → End → Type 0
Declines decline done (Finished status) =
    (done ≡ talk (Said (decline_text decline) ∷ [])) × (status ≡ REFUSED)
Declines decline done Failed = IsNothing done
Declines decline done Starved = IsNothing done

-- that the plan couldn't be opened shows by the number of failed reads; where a write has failed
-- after it, that number isn't known
abbrev pub IsLost : FilesTold → FilesTold → End → Type 0
IsLost files files' (Finished status) = Rose files.faults.reads files'.faults.reads
IsLost files files' Failed = ⊤
IsLost files files' Starved = Rose files.faults.reads files'.faults.reads

module _ (folder : Bytes) (most : ℕ) (files files' : FilesTold) where
  -- what splitting a game does
  abbrev pub SplitsGame : Game → Done → End → Type 0
  SplitsGame g done end = ((split : Split)
      × IsPreparedAs folder most g files.held (IsLost files files' end) split
      × DeliversSplit folder g split done end)
      ⊎ ((decline : Decline) × IsDeclined folder files files' decline × Declines decline done end)

  -- the same of the game that was read
  abbrev pub Splits : Result GameEntry Halt → Done → End → Type 0
  Splits (Err halt) done end = ⊥
  Splits (Ok e) done end = (g : Game) × IsSaidBy e g × SplitsGame g done end

  -- the same of the game under a name
  abbrev pub SplitsAt : Bytes → Holding → Done → End → Type 0
  SplitsAt game held done end = Splits (game_held (held game)) done end

-- a run on the game under the name that ends with the status, where it is told what the names
-- hold: the game is split, or what stands against that is printed with its status
abbrev pub SplitRan : Bytes → Bytes → ℕ → FilesTold → FilesTold → ConsoleTold → ConsoleTold → ℕ
    → Type 0
SplitRan game folder most files files' before after status = IfSome files.held (λ held.
    (done : Done)
    × (DeclinesGame held game done (ending status)
    ⊎ SplitsAt folder most files files' game held done (ending status))
    × Changes held files' before after done (ending status))

-- ---- how it ends

-- what was split was delivered, or a write has failed, or memory ran out
abbrev pub IsDelivered : Result ℕ Halt → Type 0
IsDelivered (Ok status) = status ≡ DONE
IsDelivered (Err halt) = IsWriteHalt halt

-- the statuses of such a run
abbrev pub split_statuses : List ℕ
split_statuses =
    DONE ∷ FAULTY_GAME ∷ REFUSED ∷ READ_FAILED ∷ WRITE_FAILED ∷ NO_MEMORY ∷ []

-- the game is split or not; or the game file has a fault, or the run was stopped
abbrev pub EndsOnSplit : Result ℕ Halt → Type 0
EndsOnSplit (Ok status) = (status ≡ DONE) ⊎ (status ≡ REFUSED)
EndsOnSplit (Err halt) = IsGameHalt halt

-- it was said why the game isn't split; or that was stopped, and nothing was said
abbrev pub TellsDecline : Decline → ConsoleTold → ConsoleTold → Result ℕ Halt → Type 0
TellsDecline decline before after (Ok status) = (status ≡ REFUSED)
    × Grows before.log after.log (Said (decline_text decline) ∷ [])
    × (after.left ≡ before.left)
    × (after.faults ≡ before.faults)
TellsDecline decline before after (Err halt) = IsWriteHalt halt
    × (after.log ≡ before.log)
    × (after.left ≡ before.left)
    × HaltCauses {T = ℕ} ⊥ before.faults after.faults (Err halt)

-- delivering leaves the numbers of faults of the files, unless a call has failed
abbrev pub IsCalm : FilesTold → FilesTold → Result ℕ Halt → Type 0
IsCalm files files' (Ok status) = files'.faults ≡ files.faults
IsCalm files files' (Err (Refused refusal)) = ⊤
IsCalm files files' (Err (Stopped Read)) = ⊤
IsCalm files files' (Err (Stopped Write)) = ⊤
IsCalm files files' (Err (Stopped Memory)) = files'.faults ≡ files.faults

-- files are stored only by a run that is done, or stopped by a write or for want of memory
abbrev pub IsUnstored : FilesTold → FilesTold → Result ℕ Halt → Type 0
IsUnstored files files' (Ok status) = (status ≡ DONE) ⊎ ReadsOnly files files'
IsUnstored files files' (Err (Refused refusal)) = ReadsOnly files files'
IsUnstored files files' (Err (Stopped Read)) = ReadsOnly files files'
IsUnstored files files' (Err (Stopped Write)) = ⊤
IsUnstored files files' (Err (Stopped Memory)) = ⊤

-- the same by the status
abbrev pub IsUnstoredAt : FilesTold → FilesTold → ℕ → Type 0
IsUnstoredAt files files' status =
    status ≢ DONE → status ≢ WRITE_FAILED → status ≢ NO_MEMORY → ReadsOnly files files'

-- what stops a run has its cause; otherwise no call on the console has failed. Files of the folder
-- that can't be opened count as missing, so numbers of the files may rise
abbrev pub SplitCauses : Type 0 → FilesTold → FilesTold → ConsoleTold → ConsoleTold
    → Result ℕ Halt → Type 0
SplitCauses absent files files' console console' (Ok status) = console'.faults ≡ console.faults
SplitCauses absent files files' console console' (Err (Refused refusal)) =
    console'.faults ≡ console.faults
SplitCauses absent files files' console console' (Err (Stopped Read)) =
    ReadCause absent files files' console console'
SplitCauses absent files files' console console' (Err (Stopped Write)) =
    WriteCause files files' console console'
SplitCauses absent files files' console console' (Err (Stopped Memory)) =
    console'.faults ≡ console.faults

-- the same by the status
pub record HasSplitCause (absent : Type 0) (files files' : FilesTold)
    (console console' : ConsoleTold) (status : ℕ) : Type 0 where
  pub read : status ≡ READ_FAILED → ReadCause absent files files' console console'
  pub write : status ≡ WRITE_FAILED → WriteCause files files' console console'
  pub other : status ≢ READ_FAILED → status ≢ WRITE_FAILED → console'.faults ≡ console.faults
