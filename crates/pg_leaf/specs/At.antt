-- A board and a position, and what is asked there.
use Rattle.std.specs.Prelude.{◌≡◌, ◌≢◌}
use Rattle.pg_leaf.specs.Prelude.{Game, IsPosition, IsQuestion, Position, Score, Switching, View}

-- the board stands at the position of the game
pub record IsAt (g : Game) (p : Position) (b : View) : Type 0 where
  pub game : b.game ≡ g
  pub position : b.stand.position ≡ p

-- the game is on lines, the question is one for its kind, and the position is one of the game
pub record IsAskedAt (g : Game) (t : Score) (p : Position) : Type 0 where
  pub question : IsQuestion g.kind t
  pub lines : g.kind ≢ Switching
  pub position : IsPosition g p
