-- What recording a session does.
use Rattle.std.specs.Prelude.{◌≡◌, ◌⊎◌, ℕ, ◌==◌, List, [], ◌∷◌, Result, Ok, Err, if◌then◌else◌, ⊤}
use Rattle.pg_sessions.specs.Prelude.{Bytes, Making, Game, IsSaidBy, printed_record, Event, Done}
use Rattle.pg_sessions.specs.Prelude.{End, Finished, Failed, Starved, IsGameHalt, Halt, Refused}
use Rattle.pg_sessions.specs.Prelude.{Stopped, DONE, OUT_OF_REPLIES}
use Rattle.pg_files.specs.GameFile.{Entry as GameEntry}
use Rattle.pg_sessions.specs.SessionLog.{IsClosingLog, IsOpenLog, IsWholeLog}

-- the record of these events as the file under a name
abbrev pub record_file : Bytes → List Event → Making
record_file name events = (name, printed_record events)

-- what is stored at the end of a session: its record, unless the session was ended by refusals
abbrev pub stored_at : Bytes → List Event → ℕ → List Making
stored_at name events status = if status == DONE then record_file name events ∷ [] else []

-- a session of the game is recorded under the name: its log is whole. Where a call fails, the log
-- is open and nothing was stored, or the record was stored and only the last text is wanting; for
-- want of memory it ends before the record is stored
abbrev pub RecordsGame : Game → Bytes → Done → End → Type 0
RecordsGame g name done (Finished status) =
    (events : List Event) × IsWholeLog g done.entries events status
    × (done.stored ≡ stored_at name events status)
RecordsGame g name done Failed = (IsOpenLog g done.entries × (done.stored ≡ []))
    ⊎ ((events : List Event) × IsClosingLog g done.entries events
    × (done.stored ≡ record_file name events ∷ []))
RecordsGame g name done Starved =
    (events : List Event) × IsClosingLog g done.entries events × (done.stored ≡ [])

-- the same of a game that was read
abbrev pub Records : Result GameEntry Halt → Bytes → Done → End → Type 0
Records (Err halt) name done end = ⊥
Records (Ok entry) name done end = (g : Game) × IsSaidBy entry g × RecordsGame g name done end

-- where the session of a game that was read is done or ends early, so it may end
abbrev pub GivesSession : Result ℕ Halt → Type 0
GivesSession (Ok status) = (status ≡ DONE) ⊎ (status ≡ OUT_OF_REPLIES)
GivesSession (Err (Refused refusal)) = ⊥
GivesSession (Err (Stopped stop)) = ⊤

-- where recording is done or ends early, so it may end
abbrev pub GivesRecord : Result ℕ Halt → Type 0
GivesRecord (Ok status) = (status ≡ DONE) ⊎ (status ≡ OUT_OF_REPLIES)
GivesRecord (Err halt) = IsGameHalt halt
