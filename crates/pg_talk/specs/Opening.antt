-- What a name holds: a game that a command reads, or what stands against it.
use Rattle.std.specs.Prelude.{◌≡◌, Option, Result}
use Rattle.pg_talk.specs.Prelude.{Bytes, Holding, Game, game, entry}
use Rattle.pg_files.specs.GameFile.{Entry as GameEntry}
use Rattle.pg_files.specs.Views.{number_of as game_fault_number}
use Rattle.pg_talk.specs.Reading.{IsLackingOne, Opens, game_fault, held_as, or_halt}
use Rattle.pg_talk.specs.declared.halt.Halt.{Halt}

-- the game that a name holds, or what stands against it
abbrev pub game_held : Option Bytes → Result GameEntry Halt
game_held o = held_as
    (λ text. or_halt (λ fault. game_fault (game_fault_number fault.0) fault.1) (game text)) o

-- the game is the one that a file says
abbrev pub IsSaidBy : GameEntry → Game → Type 0
IsSaidBy e g = entry g ≡ e

-- ---- what the code has read

-- where it is told what the names hold, this is what one says
abbrev pub OpensGame : Option Holding → Bytes → Result Game Halt → Type 0
OpensGame h g r = Opens entry game_held h g r

-- it is told that the name of a game isn't held
abbrev pub IsGameLacking : Option Holding → Bytes → Type 0
IsGameLacking h g = IsLackingOne game_held h g
