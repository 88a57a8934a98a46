-- What making a game stores and says.
use Rattle.std.specs.Prelude.{◌≡◌, ◌⊎◌, Bool, true, false, List, [], ◌∷◌, length, Option, Some}
use Rattle.std.specs.Prelude.{None}
use Rattle.pg_cli.specs.Prelude.{ConsoleTold, Grows, Bytes, Making, Said, entry, Field, Lines}
use Rattle.pg_cli.specs.Prelude.{Graph, Game, Expanded, line_game_text, switching_game_text, Source}
use Rattle.pg_cli.specs.Prelude.{Rows, Bridge, Scatter, Done, End, Delivers, DeliversThen}
use Rattle.pg_files.specs.Print.{printed}
use Rattle.pg_gen.specs.Bridge.{IsBridgeGame, has_bridge}
use Rattle.pg_gen.specs.Rows.{IsRowsGame, has_rows}
use Rattle.pg_gen.specs.Scatter.{IsScatterGame, has_scatter}
use Rattle.pg_cli.specs.Solving.{SolvesGame, result_and_counts}
use Rattle.pg_cli.specs.declared.solving.TheConstants.{DEFAULT_POSITIONS}

-- whether the numbers are within their ranges
abbrev pub has_source : Source → Bool
has_source (Rows n) = has_rows n
has_source (Bridge r) = has_bridge r
has_source (Scatter seed n m k) = has_scatter seed n m k

-- THE GAME THAT IS MADE of the numbers
abbrev pub IsMade : Source → Game → Type 0
IsMade (Rows n) g = IsRowsGame n g
IsMade (Bridge r) g = IsBridgeGame r g
IsMade (Scatter seed n m k) g = IsScatterGame seed n m k g

-- the text that tells how large a game is
abbrev pub size_text : Field → Bytes
size_text (Lines f) = line_game_text f.points (length f.lines)
size_text (Graph h) = switching_game_text h.vertices (length h.ends)

-- a game as the file under a name
abbrev pub game_file : Bytes → Game → Making
game_file name g = (name, printed (entry g))

-- what is said of a game that was made
abbrev pub size_texts : Game → List Bytes
size_texts g = size_text g.field ∷ []

-- the game is stored and its size said; and where a certificate is wanted, the game is solved, and
-- behind the result the counts are said
abbrev pub StoresGame : Game → Bytes → Option Bytes → Expanded → Done → End → Type 0
StoresGame g name None work done end = Delivers (game_file name g) (size_texts g) done end
StoresGame g name (Some certificate) work done end = DeliversThen (game_file name g) (size_texts g)
    (SolvesGame false (result_and_counts g work) g certificate DEFAULT_POSITIONS work) done end

-- what making a game does
abbrev pub Generates : Source → Bytes → Option Bytes → Expanded → Done → End → Type 0
Generates which name certificate work done end =
    (g : Game) × IsMade which g × StoresGame g name certificate work done end

-- the names under which something may be stored
abbrev pub names_of : Bytes → Option Bytes → List Bytes
names_of game None = game ∷ []
names_of game (Some certificate) = game ∷ certificate ∷ []

-- whether a search is made: the game has lines and is to be solved
abbrev pub searches : Source → Option Bytes → Bool
searches which None = false
searches (Bridge r) (Some certificate) = false
searches which (Some certificate) = true

-- where memory is wanting nothing was said, or just the size of the game that is to be solved
abbrev pub TellsSize : Source → Option Bytes → ConsoleTold → ConsoleTold → Type 0
TellsSize which None before after = Grows before.log after.log []
TellsSize which (Some certificate) before after = Grows before.log after.log []
    ⊎ ((g : Game) × IsMade which g × Grows before.log after.log (Said (size_text g.field) ∷ []))

-- the game that was made, none just where a number is outside its range
abbrev pub IsMadeOf : Source → Option Game → Type 0
IsMadeOf which None = has_source which ≡ false
IsMadeOf which (Some g) = (has_source which ≡ true) × IsMade which g
