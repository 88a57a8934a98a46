-- The lines of a game as a board keeps them, and the cells in which it counts.
use Rattle.std.specs.Prelude.{◌≡◌, ℕ, ◌+◌, ◌<◌, ◌≤◌, List, [], length, get_or}
use Rattle.pg_board.specs.Prelude.{All, filter, range_with_len, IsStrictlyIncreasing, MAX_POINTS}
use Rattle.pg_board.specs.Prelude.{MAX_LINES, MAX_LINE_POINTS, Side, X, Y, Game, lines_of}
use Rattle.pg_board.specs.Prelude.{point_count, is_on, greatest_length}

-- how many points there are, the length of the longest line, and the lines
pub record Shape : Type 0 where
  pub points : ℕ
  pub longest : ℕ
  pub lines : List (List ℕ)

-- those of a game
abbrev pub shape_of : Game → Shape
shape_of g = record {
  points = point_count g;
  longest = greatest_length (lines_of g);
  lines = lines_of g;
}

-- the line of a number
abbrev pub line_in : Shape → ℕ → List ℕ
line_in s i = get_or s.lines i []

-- the numbers of the lines that hold the point, in ascending order
unfoldable pub lines_holding : List (List ℕ) → ℕ → List ℕ
lines_holding lines v = filter (λ i. is_on v (get_or lines i [])) (range_with_len 0 (length lines))

unfoldable pub lines_through : Shape → ℕ → List ℕ
lines_through s v = lines_holding s.lines v

-- how many lines hold the point
abbrev pub degree_in : Shape → ℕ → ℕ
degree_in s v = length (lines_through s v)

-- a line: ascending points, no more than the longest line has
pub record IsShapeLine (s : Shape) (line : List ℕ) : Type 0 where
  pub some : 1 ≤ length line
  pub short : length line ≤ s.longest
  pub ascending : IsStrictlyIncreasing line
  pub range : All (λ v. v < s.points) line

-- the lines are within the limits of games
pub record IsShape (s : Shape) : Type 0 where
  pub few_points : s.points ≤ MAX_POINTS
  pub few_lines : length s.lines ≤ MAX_LINES
  pub few_long : s.longest ≤ MAX_LINE_POINTS
  pub lines : All (IsShapeLine s) s.lines

-- the lines are within the limits, and the rows are the lines through each point
pub record IsLayout (s : Shape) (through : List (List ℕ)) : Type 0 where
  pub shape : IsShape s
  pub count : length through ≡ s.points
  pub through_is : (v : ℕ) → v < s.points → get_or through v [] ≡ lines_through s v

-- ---- the cells: the turn, the mark of each point, each side's points in each line, and each
-- side's live lines by their free points

-- the cell of the turn
abbrev pub turn_cell : ℕ
turn_cell = 0

-- the cell of a point's mark
unfoldable pub mark_cell : ℕ → ℕ
mark_cell v = 1 + v

-- the cell with the number of a side's points in a line
unfoldable pub count_cell : Shape → Side → ℕ → ℕ
count_cell s X i = 1 + s.points + i
count_cell s Y i = 1 + s.points + length s.lines + i

-- the cell with the number of lines without a point of the side that have so many free points
unfoldable pub free_cell : Shape → Side → ℕ → ℕ
free_cell s X f = 1 + s.points + length s.lines + length s.lines + f
free_cell s Y f = 1 + s.points + length s.lines + length s.lines + (s.longest + 1) + f

-- how many cells there are
unfoldable pub cell_count : Shape → ℕ
cell_count s = 1 + s.points + length s.lines + length s.lines + (s.longest + 1) + (s.longest + 1)
