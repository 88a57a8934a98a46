-- Plays: lists of moves by the rules.
use Rattle.std.specs.Prelude.{ℕ, List}
use Rattle.pg_game.specs.declared.game.Game.{Game}
use Rattle.pg_game.specs.declared.position.Position.{Position}
use Rattle.pg_game.specs.Rules.{IsPlayBy, played_by}
use Rattle.pg_game.specs.Value.{rules_of}

-- each point is one of the game and free where it is played, and the game isn't over before it
abbrev pub IsLegalPlay : Game → Position → List ℕ → Type 0
IsLegalPlay g p moves = IsPlayBy (rules_of g) p moves

-- the position after the points are played
abbrev pub played : Game → Position → List ℕ → Position
played g p moves = played_by (rules_of g) p moves
