-- The value of a position of a game, and what a side forces.
use Rattle.std.specs.Prelude.{IsTrue}
use Rattle.pg_game.specs.Prelude.{Goal, Score, Side}
use Rattle.pg_game.specs.declared.game.Game.{Game}
use Rattle.pg_game.specs.declared.position.Position.{Position}
use Rattle.pg_game.specs.Game.{point_count, is_over, outcome}
use Rattle.pg_game.specs.Rules.{Rules, value_by}
pub use Rattle.pg_game.specs.Rules.{better, best, reaches}

-- the rules of the game
abbrev pub rules_of : Game → Rules
rules_of g = record { points = point_count g; bias = g.bias; over = is_over g; outcome = outcome g }

-- the value: best play by both sides
abbrev pub value : Game → Position → Score
value g p = value_by (rules_of g) p

-- the side forces the goal: the value reaches it
abbrev pub Forces : Game → Position → Side → Goal → Type 0
Forces g p side goal = IsTrue (reaches side goal (value g p))
