-- What playing a game at a table does.
use Rattle.std.specs.Prelude.{◌≡◌, ◌⊎◌, ℕ, List, [], ◌∷◌, ◌++◌, Option, Some, None, Result, Ok, Err}
use Rattle.std.specs.Prelude.{⊤}
use Rattle.pg_playing.specs.Prelude.{Bytes, DONE, Delivers, Done, End, Entry, Event, Failed}
use Rattle.pg_playing.specs.Prelude.{Finished, Game, Halt, IsGameHalt, IsSaidBy, LeadsBy, Look}
use Rattle.pg_playing.specs.Prelude.{Refused}
use Rattle.pg_playing.specs.Prelude.{Starved, Stopped, IsNothing, record_file, recorded_text}
use Rattle.pg_playing.specs.Prelude.{Side, standing_count}
use Rattle.pg_files.specs.GameFile.{Entry as GameEntry}
use Rattle.pg_playing.specs.TableLog.{Closes, Shows, Steps, TableStage}

-- the paths under which something is stored
abbrev pub names_of : Option Bytes → List Bytes
names_of None = []
names_of (Some path) = path ∷ []

-- the record of a session is stored and that is said, if there is a path for it; otherwise nothing
-- is done
abbrev pub Stores : Option Bytes → Game → List Event → Done → End → Type 0
Stores None g events done (Finished status) = IsNothing done × (status ≡ DONE)
Stores None g events done Failed = ⊥
Stores None g events done Starved = ⊥
Stores (Some path) g events done end = Delivers (record_file path events)
    (recorded_text (standing_count g events) ∷ []) done end

-- what was printed and read, and then what was done at the end
abbrev pub after_log : List Entry → Done → Done
after_log entries done =
    record { entries = entries ++ done.entries; stored = done.stored }

-- by rules that say which entry may come next the log has led from a first stage to one at which it
-- is whole, with these events, and then their record was stored
pub record Closed {S : Type 0} (Steps : S → Entry → S → Type 0) (first : S)
    (IsWhole : S → List Event → Type 0) (g : Game) (path : Option Bytes) (done : Done) (end : End)
    : Type 0 where
  pub entries : List Entry
  pub final : S
  pub events : List Event
  pub log : LeadsBy Steps first entries final
  pub whole : IsWhole final events
  pub last : Done
  pub stores : Stores path g events last end
  pub same : done ≡ after_log entries last

-- the log has begun, and nothing was stored
abbrev pub IsCutShort : {S : Type 0} → (S → Entry → S → Type 0) → S → Done → Type 0
IsCutShort {S} Steps first done =
    ((stage : S) × LeadsBy Steps first done.entries stage) × (done.stored ≡ [])

-- a game is played by these rules: its log is whole and its record stored. If a call fails or
-- memory runs out, the log has begun and nothing was stored, or the log is whole and storing was
-- stopped
abbrev pub PlaysLog : {S : Type 0}
    → (S → Entry → S → Type 0)
    → S
    → (S → List Event → Type 0)
    → Game
    → Option Bytes
    → Done
    → End
    → Type 0
PlaysLog Steps first IsWhole g path done (Finished status) =
    Closed Steps first IsWhole g path done (Finished status)
PlaysLog Steps first IsWhole g path done Failed =
    IsCutShort Steps first done ⊎ Closed Steps first IsWhole g path done Failed
PlaysLog Steps first IsWhole g path done Starved =
    IsCutShort Steps first done ⊎ Closed Steps first IsWhole g path done Starved

-- the log of a game at a table is whole at this stage, and these events were played
abbrev pub EndsWith : TableStage → List Event → Type 0
EndsWith stage events = stage ≡ Closes events

-- the same of a game at a table, from the game's position
abbrev pub PlaysGame : Look → Game → Option Bytes → Done → End → Type 0
PlaysGame look g path = PlaysLog (Steps look g) (Shows [] 0) EndsWith g path

-- the game in which this side begins, if one is named
abbrev pub turned_to : Game → Option Side → Game
turned_to g None = g
turned_to g (Some turn) = record g { turn = turn }

-- the same of a game that was read, with the side that begins
abbrev pub Plays : Look
    → Option Side
    → Result GameEntry Halt
    → Option Bytes
    → Done
    → End
    → Type 0
Plays look turn (Err halt) path done end = ⊥
Plays look turn (Ok entry) path done end =
    (g : Game) × IsSaidBy entry g × PlaysGame look (turned_to g turn) path done end

-- how playing a game that was read ends
abbrev pub GivesTable : Result ℕ Halt → Type 0
GivesTable (Ok status) = status ≡ DONE
GivesTable (Err (Refused refusal)) = ⊥
GivesTable (Err (Stopped stop)) = ⊤

-- how playing ends
abbrev pub GivesPlay : Result ℕ Halt → Type 0
GivesPlay (Ok status) = status ≡ DONE
GivesPlay (Err halt) = IsGameHalt halt
