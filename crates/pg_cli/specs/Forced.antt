-- What it means that a claim is accepted, or played.
use Rattle.std.specs.Prelude.{◌≡◌, List, ◌++◌, Option, Some, Ok}
use Rattle.pg_cli.specs.Prelude.{Goal, Side, Bytes, Holding, Entry, with_turn, start, Forces, Game}
use Rattle.pg_cli.specs.Prelude.{game, entry, Command, OfFamily, AreForcedBy, AreForcedInFamily}
use Rattle.pg_cli.specs.Commands.{game_read}
use Rattle.pg_results.specs.Results.{SaysGame}

-- these bytes say a game, and the side forces the goal from its marks with this turn
abbrev pub IsForcedFrom : Option Bytes → Side → Side → Goal → Type 0
IsForcedFrom bytes turn side goal =
    (g : Game) × SaysGame bytes g × Forces g (with_turn g turn) side goal

-- the same from its position
abbrev pub IsForced : Option Bytes → Side → Goal → Type 0
IsForced bytes side goal = (g : Game) × SaysGame bytes g × Forces g (start g) side goal

-- each claim that is accepted among what was said, and each that is played, is forced in the game
-- that these bytes say
abbrev pub AreForcedInGame : Option Bytes → List Entry → Type 0
AreForcedInGame bytes entries = AreForcedBy (IsForcedFrom bytes) (IsForced bytes) entries

-- the same by the command: that of a family reads a game of the family
abbrev pub AreForced : Option Command → Option Bytes → List Entry → Type 0
AreForced (Some (OfFamily family task g c)) bytes entries = AreForcedInFamily family bytes entries
AreForced _ bytes entries = AreForcedInGame bytes entries

-- of all that a command has said, where it is told what the names hold and what was said
abbrev pub AnnouncesForced : Option Holding
    → Option Command
    → Option (List Entry)
    → Option (List Entry)
    → Type 0
AnnouncesForced told command log after =
    (held : Holding) (earlier entries : List Entry) → told ≡ Some held
    → log ≡ Some earlier
    → after ≡ Some (earlier ++ entries)
    → AreForced command (game_read held command) entries
