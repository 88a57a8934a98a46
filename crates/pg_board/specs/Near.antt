-- Lines that lack one point.
use Rattle.std.specs.Prelude.{◌≡◌, ℕ, ◌<◌, Bool, true, false, not, ◌&&◌, List, length, Option, Some}
use Rattle.std.specs.Prelude.{None, IfSome}
use Rattle.pg_board.specs.Prelude.{Contains, ShareNone, other, Side, Position, is_near, X, Y, Game}
use Rattle.pg_board.specs.Prelude.{lines_of}
use Rattle.pg_board.specs.Board.{line_at, live_lines}
use Rattle.pg_board.specs.Fits.{has_mark}

-- whether the point has neither side's mark
unfoldable pub has_none : List ℕ → ℕ → Bool
has_none cells v = not (has_mark cells X v) && not (has_mark cells Y v)

-- none of the lines below n has all points the side's but one free one
abbrev pub NoneNear : Game → Position → Side → ℕ → Type 0
NoneNear g p side n = (i u : ℕ) → i < n → is_near p side (line_at g i) u ≡ false

-- the lowest line that has all points the side's but one free one, and that point
pub record IsNearest (g : Game) (p : Position) (side : Side) (i u : ℕ) : Type 0 where
  pub range : i < length (lines_of g)
  pub near : is_near p side (line_at g i) u ≡ true
  pub lowest : NoneNear g p side i

-- the number of the line, n where there is none
abbrev pub place_of : ℕ → Option ℕ → ℕ
place_of n (Some i) = i
place_of n None = n

-- a walk over the lines without a point of the other side has come to such a line, or to the end,
-- and no line before it is near
pub record WalksNear (g : Game) (p : Position) (side : Side) (next : Option ℕ) : Type 0 where
  pub disjoint : ShareNone p.x p.y
  pub live : IfSome next (Contains (live_lines g p (other side)))
  pub none : NoneNear g p side (place_of (length (lines_of g)) next)
