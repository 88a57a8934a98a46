-- Invariants that a side keeps up to its goal.
use Rattle.pg_game.specs.Prelude.{Goal, Side}
use Rattle.pg_game.specs.declared.game.Game.{Game}
use Rattle.pg_game.specs.declared.position.Position.{Position}
use Rattle.pg_game.specs.Rules.{KeepsBy}
use Rattle.pg_game.specs.Value.{rules_of}

-- where the game is over the goal is reached; where the side is to move some free point keeps the
-- invariant; and every point that the other side takes keeps it
abbrev pub Keeps : Game → Side → Goal → (Position → Type 0) → Type 0
Keeps g side goal I = KeepsBy (rules_of g) side goal I
