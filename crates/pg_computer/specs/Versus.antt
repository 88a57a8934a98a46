-- What playing a game against the program does.
use Rattle.std.specs.Prelude.{◌≡◌, List, [], Option, Result, Ok, Err}
use Rattle.pg_computer.specs.Prelude.{Budget, Bytes, Done, End, Event, Game, Halt, IsSaidBy, Look}
use Rattle.pg_computer.specs.Prelude.{Outcome, PlaysLog, Side, TableStage, turned_to}
use Rattle.pg_files.specs.GameFile.{Entry as GameEntry}
use Rattle.pg_computer.specs.Points.{ArePoints}
use Rattle.pg_computer.specs.VersusLog.{Closes, Shows, Steps}

-- the log is whole at this stage, these events were played, and no point was taken back
abbrev pub EndsWith : Game → TableStage → List Event → Type 0
EndsWith g stage events = (stage ≡ Closes events) × ArePoints g events

-- the game is played against the program
abbrev pub PlaysVersus : (Game → Budget → Outcome → Type 0)
    → Budget
    → Look
    → Side
    → Game
    → Option Bytes
    → Done
    → End
    → Type 0
PlaysVersus Brings budget look side g path =
    PlaysLog (Steps Brings budget look side g) (Shows [] 0) (EndsWith g) g path

-- the same of a game that was read, with the side that begins
abbrev pub Versus : (Game → Budget → Outcome → Type 0)
    → Budget
    → Look
    → Side
    → Option Side
    → Result GameEntry Halt
    → Option Bytes
    → Done
    → End
    → Type 0
Versus Brings budget look side turn (Err halt) path done end = ⊥
Versus Brings budget look side turn (Ok entry) path done end = (g : Game) × IsSaidBy entry g
    × PlaysVersus Brings budget look side (turned_to g turn) path done end
