-- How often a search may expand a position, and what it begins with.
use Rattle.std.specs.Prelude.{◌≤◌, ◌*◌, ℕ, length}
use Rattle.pg_pns.specs.Prelude.{Cache, Fits, Game, MAX_CLAIM_NODES, Score, View, free_points}
use Rattle.pg_pns.specs.Prelude.{lines_of, start}
use Rattle.pg_met.specs.Reading.{IsAskedOf}
use Rattle.pg_pns.specs.declared.limits.TheConstants.{MAX_EXPANDED_MOVES}
use Rattle.pg_pns.specs.Descent.{IsAtStart, IsFromStart}

-- so many positions may be expanded: at least one, at most as many as a claim has nodes, and so few
-- that a claim has room for the moves of all
pub record IsBudget (g : Game) (budget : ℕ) : Type 0 where
  pub some : 1 ≤ budget
  pub limit : budget ≤ MAX_CLAIM_NODES
  pub few : budget * length (free_points g (start g)) ≤ MAX_EXPANDED_MOVES

-- no play stands on the board, and the cache has answers for the game's lines
pub record IsReadAtStart (g : Game) (t : Score) (b : View) (cache : Cache) : Type 0 where
  pub asked : IsAskedOf g t
  pub starts : IsAtStart g b
  pub fits : Fits cache (lines_of g)

-- the same where plays may stand on the board
pub record IsReadFromStart (g : Game) (t : Score) (b : View) (cache : Cache) : Type 0 where
  pub asked : IsAskedOf g t
  pub starts : IsFromStart g b
  pub fits : Fits cache (lines_of g)
