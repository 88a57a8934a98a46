-- The class of a switching game: who wins whoever begins (Lehman 1964).
use Rattle.std.specs.Prelude.{Option, Some, None}
use Rattle.pg_game.specs.Prelude.{Score, XWins, YWins, X, Y}
use Rattle.pg_game.specs.declared.game.Game.{Game}
use Rattle.pg_game.specs.Game.{with_turn}
use Rattle.pg_game.specs.Value.{value}

-- Short wins, Cut wins, or the side to move wins
pub data Class : Type 0 where
  Short : Class
  Cut : Class
  First : Class

-- the class by the values with X and with Y to move; there is none where the side to move would
-- lose both
abbrev pub class_by : Score → Score → Option Class
class_by XWins XWins = Some Short
class_by YWins YWins = Some Cut
class_by XWins YWins = Some First
class_by _ _ = None

-- the class of the game at its marks
unfoldable pub class_of : Game → Option Class
class_of g = class_by (value g (with_turn g X)) (value g (with_turn g Y))
