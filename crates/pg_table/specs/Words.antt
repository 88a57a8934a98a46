-- What is said of a game to people.
use Rattle.std.specs.Prelude.{ℕ, ◌++◌, nat_lt, if◌then◌else◌, [], codes, decimal, Option}
use Rattle.std.specs.Prelude.{Some, None}
use Rattle.pg_base.specs.Texts.{Bytes}
use Rattle.pg_base.specs.declared.kind.Kind.{Kind}
use Rattle.pg_base.specs.declared.kind.Kind.TheVariants.{MakerBreaker, MakerMaker}
use Rattle.pg_base.specs.declared.kind.Kind.TheVariants.{AvoiderEnforcer, Switching}
use Rattle.pg_base.specs.declared.score.Score.{Score}
use Rattle.pg_base.specs.declared.score.Score.TheVariants.{XWins, Draw, YWins}
use Rattle.pg_game.specs.declared.field.Field.{Field}
use Rattle.pg_game.specs.declared.field.Field.TheVariants.{Lines, Graph as OnGraph}
use Rattle.pg_game.specs.declared.game.Game.{Game}
use Rattle.pg_game.specs.declared.position.Position.{Position}
use Rattle.pg_graph.specs.declared.graph.Graph.{Graph}
use Rattle.pg_characters.specs.Bridges.{paper_rows}
use Rattle.pg_characters.specs.Marks.{letter_of}
use Rattle.pg_table.specs.declared.words.TheConstants.{COMMANDS, PAPER_GOALS}

-- what each side wants in games of a kind on lines
abbrev pub kind_goals : Kind → Bytes
kind_goals MakerBreaker = codes "X wants to claim all points of a line, and O to prevent it.\n"
kind_goals MakerMaker = codes "The first side to claim all points of a line wins.\n"
kind_goals AvoiderEnforcer = codes "X loses by claiming all points of a line.\n"
kind_goals Switching = []

-- what each side wants on a graph: on the Bridg-It board of so many rows, which sides of the board
abbrev pub goals_on : Graph → Option ℕ → Bytes
goals_on h (Some rows) = PAPER_GOALS.now
goals_on h None = codes "X wants to join "
    ++ (decimal h.s ++ (codes " and " ++ (decimal h.t ++ codes " by edges, and O to part them.\n")))

abbrev pub graph_goals : Graph → Bytes
graph_goals h = goals_on h (paper_rows h)

-- how many points O claims in a turn, if it claims several
abbrev pub bias_text : ℕ → Bytes
bias_text bias = if nat_lt 1 bias
    then codes "O claims " ++ (decimal bias ++ codes " points in a turn.\n")
    else []

-- what each side wants
abbrev pub field_goals : Kind → Field → Bytes
field_goals kind (Lines f) = kind_goals kind
field_goals kind (OnGraph h) = graph_goals h

abbrev pub goals_text : Game → Bytes
goals_text g = field_goals g.kind g.field ++ bias_text g.bias

-- the same, and what the commands are
abbrev pub help_text : Game → Bytes
help_text g = goals_text g ++ COMMANDS.now

-- whose turn it is, with how many points that side still claims if there are several
abbrev pub turn_text : Position → Bytes
turn_text p = letter_of p.turn ++ (if nat_lt 1 p.left
    then codes " claims " ++ (decimal p.left ++ codes " points: ")
    else codes " claims: ")

-- who has won
abbrev pub result_text : Score → Bytes
result_text XWins = codes "X has won.\n"
result_text Draw = codes "Nobody has won.\n"
result_text YWins = codes "O has won.\n"
