-- What each command reads, and what it leaves.
use Rattle.std.specs.Prelude.{◌≡◌, ◌≢◌, ◌⊎◌, ℕ, true, false, if◌then◌else◌, List, [], ◌∷◌, Option}
use Rattle.std.specs.Prelude.{Some, None, option_and_then, option_map, Result, Ok, Err, ⊤}
use Rattle.pg_cli.specs.Prelude.{ConsoleTold, Grows, Bytes, Holding, FilesTold, ReadsOnly, entry}
use Rattle.pg_cli.specs.Prelude.{Game, Said, no_meaning_text, NoMeaning, DONE, UNKNOWN, NO_MEANING}
use Rattle.pg_cli.specs.Prelude.{FAULTY_GAME, REFUSED, READ_FAILED, WRITE_FAILED, NO_MEMORY}
use Rattle.pg_cli.specs.Prelude.{INPUT_ENDED, OUT_OF_REPLIES, FAULTY_RECORD, Command, Solve, Check}
use Rattle.pg_cli.specs.Prelude.{Play, Gen, Report, OfFamily, Record, Review, meaning_of}
use Rattle.pg_cli.specs.Prelude.{IsGameHalt, IsReadHalt, IsPlayHalt, IsPlayEnd, IsWriteHalt}
use Rattle.pg_cli.specs.Prelude.{game_held, lacking, QuietsBy, StoresAt, GivesInFamily}
use Rattle.pg_cli.specs.Prelude.{LacksInFamily, LeavesFamilyFiles, QuietAtReadInFamily}
use Rattle.pg_cli.specs.Prelude.{statuses_in_family, GivesRecord, IsAlong, IsOfNames, IsReached}
use Rattle.pg_cli.specs.Prelude.{GivesReview, StandsAgainst, Expanded, Memory, Halt, Refused}
use Rattle.pg_cli.specs.Prelude.{Stopped, LeavesSearch}
use Rattle.pg_cli.specs.Generating.{IsMade, TellsSize, has_source, names_of, searches}
use Rattle.pg_cli.specs.Reading.{both_held}
use Rattle.pg_cli.specs.Reporting.{IsReportEnd}
use Rattle.pg_cli.specs.Solving.{positions_for}
use Rattle.pg_cli.specs.declared.solving.TheConstants.{DEFAULT_POSITIONS}

-- a command whose numbers are within their ranges; any other has no meaning
abbrev pub built : Command → Option Command
built (Solve g c positions images) =
    option_map (λ n. Solve g c (Some n) images) (positions_for positions)
built (Check g c) = Some (Check g c)
built (Play g c side) = Some (Play g c side)
built (Gen which g c) = if has_source which then Some (Gen which g c) else None
built (Report g c) = Some (Report g c)
built (OfFamily family task g c) = Some (OfFamily family task g c)
built (Record g r) = Some (Record g r)
built (Review g r positions) = option_map (λ n. Review g r (Some n)) (positions_for positions)

-- what words ask for
abbrev pub asked : List Bytes → Option Command
asked words = option_and_then built (meaning_of words)

-- the statuses with which a command may end
abbrev pub statuses_of : Option Command → List ℕ
statuses_of (Some (Solve g c positions images)) =
    DONE ∷ UNKNOWN ∷ FAULTY_GAME ∷ READ_FAILED ∷ WRITE_FAILED ∷ NO_MEMORY ∷ []
statuses_of (Some (Check g c)) =
    DONE ∷ FAULTY_GAME ∷ REFUSED ∷ READ_FAILED ∷ WRITE_FAILED ∷ NO_MEMORY ∷ []
statuses_of (Some (Play g c side)) = DONE ∷ NO_MEANING ∷ FAULTY_GAME ∷ REFUSED ∷ READ_FAILED
    ∷ WRITE_FAILED ∷ NO_MEMORY ∷ INPUT_ENDED ∷ OUT_OF_REPLIES ∷ []
statuses_of (Some (Report g c)) =
    DONE ∷ FAULTY_GAME ∷ REFUSED ∷ READ_FAILED ∷ WRITE_FAILED ∷ NO_MEMORY ∷ []
statuses_of (Some (OfFamily family task g c)) = statuses_in_family task
statuses_of (Some (Gen which g c)) = if searches which c
    then DONE ∷ UNKNOWN ∷ WRITE_FAILED ∷ NO_MEMORY ∷ []
    else DONE ∷ WRITE_FAILED ∷ NO_MEMORY ∷ []
statuses_of (Some (Record g r)) =
    DONE ∷ FAULTY_GAME ∷ READ_FAILED ∷ WRITE_FAILED ∷ NO_MEMORY ∷ OUT_OF_REPLIES ∷ []
statuses_of (Some (Review g r positions)) =
    DONE ∷ UNKNOWN ∷ FAULTY_GAME ∷ READ_FAILED ∷ WRITE_FAILED ∷ NO_MEMORY ∷ FAULTY_RECORD ∷ []
statuses_of None = NO_MEANING ∷ WRITE_FAILED ∷ NO_MEMORY ∷ []

-- what is said where a read has failed: nothing, but in play, and in a session that is recorded
abbrev pub QuietAtRead : Option Command → ConsoleTold → ConsoleTold → Type 0
QuietAtRead (Some (Play g c side)) before after = ⊤
QuietAtRead (Some (Record g r)) before after = ⊤
QuietAtRead (Some (OfFamily family task g c)) before after = QuietAtReadInFamily task before after
QuietAtRead _ before after = Grows before.log after.log []

-- what is said where memory is wanting: nothing, so it isn't wanting once a claim was accepted or
-- is played; of a game that is made and to be solved, perhaps its size; of a session that is
-- recorded, and of a review, what came before
abbrev pub QuietAtMemory : Option Command → ConsoleTold → ConsoleTold → Type 0
QuietAtMemory (Some (Gen which g c)) before after = TellsSize which c before after
QuietAtMemory (Some (Record g r)) before after = ⊤
QuietAtMemory (Some (Review g r positions)) before after = ⊤
QuietAtMemory _ before after = Grows before.log after.log []

-- what is said by a command before what stands against it is said, and where it was stopped
abbrev pub Quiets : Option Command → ConsoleTold → ConsoleTold → Result ℕ Halt → Type 0
Quiets command before after result = QuietsBy (QuietAtRead command before after)
    (QuietAtMemory command before after) before after result

-- where a command is done or ends early, so it may end
abbrev pub Gives : Option Command → Result ℕ Halt → Type 0
Gives (Some (Solve g c positions images)) (Ok status) = (status ≡ DONE) ⊎ (status ≡ UNKNOWN)
Gives (Some (Solve g c positions images)) (Err halt) = IsGameHalt halt
Gives (Some (Check g c)) (Ok status) = status ≡ DONE
Gives (Some (Check g c)) (Err halt) = IsReadHalt halt
Gives (Some (Play g c side)) (Ok status) = IsPlayEnd status
Gives (Some (Play g c side)) (Err halt) = IsPlayHalt halt
Gives (Some (Gen which g c)) (Ok status) =
    (status ≡ DONE) ⊎ ((searches which c ≡ true) × (status ≡ UNKNOWN))
Gives (Some (Gen which g c)) (Err halt) = IsWriteHalt halt
Gives (Some (Report g c)) (Ok status) = IsReportEnd status
Gives (Some (Report g c)) (Err halt) = IsReadHalt halt
Gives (Some (OfFamily family task g c)) result = GivesInFamily task result
Gives (Some (Record g r)) result = GivesRecord result
Gives (Some (Review g r positions)) result = GivesReview result
Gives None (Ok status) = ⊥
Gives None (Err halt) = (halt ≡ Refused NoMeaning) ⊎ (halt ≡ Stopped Memory)

-- what was said at a status that tells of a failed read, or of want of memory
pub record Silences (command : Option Command) (before after : ConsoleTold)
    (status : ℕ) : Type 0 where
  pub at_read : status ≡ READ_FAILED → QuietAtRead command before after
  pub at_memory : status ≡ NO_MEMORY → QuietAtMemory command before after

-- words that ask for nothing: that is said; where the run was stopped, nothing
pub record SaysNoMeaning (before after : ConsoleTold) (status : ℕ) : Type 0 where
  pub said : status ≡ NO_MEANING → Grows before.log after.log (Said no_meaning_text ∷ [])
  pub stopped : status ≢ NO_MEANING → Grows before.log after.log []

-- what a command leaves of the files: it only reads, or stores under its own names alone
abbrev pub LeavesFiles : Option Command → FilesTold → FilesTold → Type 0
LeavesFiles (Some (Solve g c positions images)) before after = StoresAt (c ∷ []) before after
LeavesFiles (Some (Gen which g c)) before after = StoresAt (names_of g c) before after
LeavesFiles (Some (OfFamily family task g c)) before after = LeavesFamilyFiles task c before after
LeavesFiles (Some (Record g r)) before after = StoresAt (r ∷ []) before after
LeavesFiles _ before after = ReadsOnly before after

-- the game is the one that a name holds, where it is told what the names hold
abbrev pub IsGameHeld : Option Holding → Bytes → Game → Type 0
IsGameHeld None name g = ⊤
IsGameHeld (Some held) name g = game_held (held name) ≡ Ok (entry g)

-- what a command leaves of the work of a search: all, unless it searches; then at every status what
-- a search may leave of the game that was read or made, or of a position of the record that was
-- read
abbrev pub LeavesWork : Option Holding → Option Command → Expanded → Expanded → Type 0
LeavesWork told (Some (Solve g c None images)) before after =
    LeavesSearch (IsGameHeld told g) DEFAULT_POSITIONS before after
LeavesWork told (Some (Solve g c (Some positions) images)) before after =
    LeavesSearch (IsGameHeld told g) positions before after
LeavesWork told (Some (Gen which g c)) before after =
    (searches which c ≡ false → after ≡ before)
    × LeavesSearch (IsMade which) DEFAULT_POSITIONS before after
LeavesWork told (Some (Review g r None)) before after =
    LeavesSearch (IsOfNames IsAlong told g r) DEFAULT_POSITIONS before after
LeavesWork told (Some (Review g r (Some positions))) before after =
    LeavesSearch (IsOfNames IsAlong told g r) positions before after
LeavesWork told _ before after = after ≡ before

-- a review says each loss before it searches a further position: where the work holds the question
-- of the position after some moves, the losses of the moves between the positions before were said
abbrev pub SpeaksInTime : Option Holding → Option Command → Expanded → Expanded → ConsoleTold
    → ConsoleTold → Type 0
SpeaksInTime told (Some (Review g r None)) work work' before after =
    LeavesSearch (IsOfNames (IsReached before after) told g r) DEFAULT_POSITIONS work work'
SpeaksInTime told (Some (Review g r (Some positions))) work work' before after =
    LeavesSearch (IsOfNames (IsReached before after) told g r) positions work work'
SpeaksInTime told _ work work' before after = ⊤

-- a name that the command reads, in the order of its work, isn't held
abbrev pub Lacks : Holding → Option Command → Type 0
Lacks held (Some (Solve g c positions images)) = game_held (held g) ≡ Err lacking
Lacks held (Some (Check g c)) = both_held (held g) (held c) ≡ Err lacking
Lacks held (Some (Play g c side)) = both_held (held g) (held c) ≡ Err lacking
Lacks held (Some (Report g c)) = both_held (held g) (held c) ≡ Err lacking
Lacks held (Some (OfFamily family task g c)) = LacksInFamily family task (held g) (held c)
Lacks held (Some (Record g r)) = game_held (held g) ≡ Err lacking
Lacks held (Some (Review g r positions)) = StandsAgainst (game_held (held g)) (held r) lacking
Lacks held _ = ⊥

-- the same where it is told what the names hold
abbrev pub IsLacking : Option Holding → Option Command → Type 0
IsLacking None command = ⊥
IsLacking (Some held) command = Lacks held command

-- the bytes of the game that the command reads
abbrev pub game_read : Holding → Option Command → Option Bytes
game_read held (Some (Solve g c positions images)) = held g
game_read held (Some (Check g c)) = held g
game_read held (Some (Play g c side)) = held g
game_read held (Some (Report g c)) = held g
game_read held (Some (OfFamily family task g c)) = held g
game_read held (Some (Record g r)) = held g
game_read held (Some (Review g r positions)) = held g
game_read held _ = None
