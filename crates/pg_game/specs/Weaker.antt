-- Positions that are no worse for a side than others, and the point that stands for another where a
-- weaker position is imagined.
use Rattle.std.specs.Prelude.{◌≡◌, ℕ, ◌<◌, true, unwrap_or, if◌then◌else◌}
use Rattle.pg_game.specs.Prelude.{Goal, Side, AreWithin, other}
use Rattle.pg_game.specs.declared.game.Game.{Game}
use Rattle.pg_game.specs.declared.position.Position.{Position}
use Rattle.pg_game.specs.Position.{is_free, points_of}
use Rattle.pg_game.specs.Game.{point_count, lowest_free, after, IsPosition}
use Rattle.pg_game.specs.Value.{Forces}

-- p is no worse for the side than q: the side has all its points of q, the other side no others
-- than in q, and the same side is to move and claims as many points
pub record IsNoWorse (side : Side) (q p : Position) : Type 0 where
  pub own : AreWithin (points_of q side) (points_of p side)
  pub theirs : AreWithin (points_of p (other side)) (points_of q (other side))
  pub turn : p.turn ≡ q.turn
  pub left : p.left ≡ q.left

-- the point where it is free, else the lowest free point, and 0 where none is free
abbrev pub free_or_lowest : Game → Position → ℕ → ℕ
free_or_lowest g p v = if is_free p v then v else unwrap_or (lowest_free g p) 0

-- q is a position that the side imagines where p is the true one: p is no worse for it, and from q
-- it forces its goal
pub record IsImagined (g : Game) (side : Side) (goal : Goal) (q p : Position) : Type 0 where
  pub position : IsPosition g q
  pub no_worse : IsNoWorse side q p
  pub forced : Forces g q side goal

-- the side moves w in the imagined position and v in the true one: v is legal, and what is imagined
-- still serves
pub record MovesOn (g : Game) (side : Side) (goal : Goal) (q p : Position) (w v : ℕ) : Type 0 where
  pub within : v < point_count g
  pub free : is_free p v ≡ true
  pub imagined : IsImagined g side goal (after g q w) (after g p v)

-- the other side replies v, and the side imagines w: w is legal there, and what is imagined still
-- serves
pub record RepliesOn (g : Game) (side : Side) (goal : Goal) (q p : Position)
    (w v : ℕ) : Type 0 where
  pub within : w < point_count g
  pub free : is_free q w ≡ true
  pub imagined : IsImagined g side goal (after g q w) (after g p v)
