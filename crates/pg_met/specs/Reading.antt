-- What a search is asked, and what it reads the answers of criteria from.
use Rattle.std.specs.Prelude.{◌≡◌, ◌≢◌, ◌<◌, ℕ, true, false}
use Rattle.pg_met.specs.Prelude.{Cache, Fits, Game, IsAt, IsPosition, IsQuestion, Position, Score}
use Rattle.pg_met.specs.Prelude.{Switching, View, is_free, is_over, lines_of, point_count}
use Rattle.pg_leaf.specs.Ahead.{IsAhead}
use Rattle.pg_met.specs.declared.table.Expansion.{Expansion}

-- the game is on lines, and the question is one for its kind
pub record IsAskedOf (g : Game) (t : Score) : Type 0 where
  pub question : IsQuestion g.kind t
  pub lines : g.kind ≢ Switching

-- the board stands at a position of the game, and the cache has answers for its lines
pub record IsReadAt (g : Game) (t : Score) (p : Position) (b : View) (cache : Cache) : Type 0 where
  pub asked : IsAskedOf g t
  pub position : IsPosition g p
  pub stands : IsAt g p b
  pub fits : Fits cache (lines_of g)

-- the board stands as before, and the cache has answers for the game's lines
pub record IsKept (g : Game) (old new : View) (cache : Cache) : Type 0 where
  pub same : new ≡ old
  pub fits : Fits cache (lines_of g)

-- the point is free at the position
pub record IsMoveAt (g : Game) (p : Position) (v : ℕ) : Type 0 where
  pub point : v < point_count g
  pub free : is_free p v ≡ true

-- a position that is expanded and isn't decided, at which the board stands, with its weights
pub record IsExpansion (g : Game) (t : Score) (e : Expansion) (b : View)
    (cache : Cache) : Type 0 where
  pub reads : IsReadAt g t e.position b cache
  pub going : is_over g e.position ≡ false
  pub ahead : IsAhead t b e.ahead
