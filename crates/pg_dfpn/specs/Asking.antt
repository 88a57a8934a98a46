-- What a search reads the answers of criteria from.
use Rattle.std.specs.Prelude.{◌≡◌, ◌≢◌}
use Rattle.pg_dfpn.specs.Prelude.{Cache, Fits, Game, IsQuestion, Score, Switching, View, lines_of}

-- the game is on lines, the question is one for its kind, the board is one of the game, and the
-- cache has answers for its lines
pub record IsRead (g : Game) (t : Score) (b : View) (cache : Cache) : Type 0 where
  pub question : IsQuestion g.kind t
  pub lines : g.kind ≢ Switching
  pub game : b.game ≡ g
  pub fits : Fits cache (lines_of g)
