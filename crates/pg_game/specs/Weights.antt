-- The weights of all points, found by one walk over the lines.
use Rattle.std.specs.Prelude.{◌≡◌, ℕ, ◌<◌, length, get_or}
use Rattle.pg_game.specs.Prelude.{FinSet, nat_cmp}
use Rattle.pg_game.specs.declared.game.Game.{Game}
use Rattle.pg_game.specs.declared.position.Position.{Position}
use Rattle.pg_game.specs.declared.bounds.TheConstants.{MAX_POINTS}
use Rattle.pg_game.specs.Potential.{total_weight, point_weight}
use Rattle.pg_game.specs.declared.weights.Weights.{Weights}

-- the total of the weights of lines, and for each point the sum of those through it
pub record AreWeights (base : ℕ) (g : Game) (own : FinSet nat_cmp) (p : Position)
    (w : Weights) : Type 0 where
  pub total : w.total ≡ total_weight base g own p
  pub count : length w.points ≡ MAX_POINTS
  pub points : (v : ℕ) → v < MAX_POINTS → get_or w.points v 0 ≡ point_weight base g own p v
