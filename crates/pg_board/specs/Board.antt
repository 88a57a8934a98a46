-- What a board is seen as, and the words in which it answers.
use Rattle.std.specs.Prelude.{ℕ, Bool, not, ◌&&◌, ◌==◌, List, [], length, get_or}
use Rattle.pg_board.specs.Prelude.{count_by, filter, range_with_len, contains, Side, Game, Position}
use Rattle.pg_board.specs.Prelude.{is_free, points_of, lines_of, is_touched, is_on, Cells}

-- a position with the trail that leads to it
pub record Stand : Type 0 where
  pub position : Position
  pub trail : Cells

-- the game, how the board stands, and how it stood before each play that was not taken back, oldest
-- first
pub record View : Type 0 where
  pub game : Game
  pub stand : Stand
  pub earlier : List Stand

-- the line of a number
abbrev pub line_at : Game → ℕ → List ℕ
line_at g i = get_or (lines_of g) i []

-- how many lines hold the point
abbrev pub degree : Game → ℕ → ℕ
degree g v = count_by (is_on v) (lines_of g)

-- how many points of the line the side has
abbrev pub count_of : Game → Position → Side → ℕ → ℕ
count_of g p side i = count_by (contains (points_of p side)) (line_at g i)

-- the lines without a point of the side, ascending
unfoldable pub live_lines : Game → Position → Side → List ℕ
live_lines g p side = filter (λ i. not (is_touched (points_of p side) (line_at g i)))
    (range_with_len 0 (length (lines_of g)))

-- whether the line has none of the side's points, and so many free points
abbrev pub is_live_with : Position → Side → ℕ → List ℕ → Bool
is_live_with p side free line =
    not (is_touched (points_of p side) line) && (count_by (is_free p) line == free)

-- how many such lines there are
unfoldable pub live_with : Game → Position → Side → ℕ → ℕ
live_with g p side free = count_by (is_live_with p side free) (lines_of g)
