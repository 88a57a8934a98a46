-- The counts of a board's lines.
use Rattle.std.specs.Prelude.{◌≡◌, ℕ, ◌+◌, ◌-◌, ◌<◌, ◌≤◌, Bool, ◌&&◌, ◌==◌, List, length, get_or}
use Rattle.pg_board.specs.Prelude.{count_by, filter, range_with_len, Side, X, Y, one_if, other}
use Rattle.pg_board.specs.Prelude.{is_same_side}
use Rattle.pg_board.specs.Shape.{Shape, line_in, count_cell, free_cell, cell_count}

-- how many points of the line the cells say that the side has
abbrev pub count_in : Shape → List ℕ → Side → ℕ → ℕ
count_in s cells side i = get_or cells (count_cell s side i) 0

-- how many lines without a point of the side and with so many free points they say that there are
abbrev pub lines_in : Shape → List ℕ → Side → ℕ → ℕ
lines_in s cells side f = get_or cells (free_cell s side f) 0

-- ---- what the counts c of each side in each line say

-- whether the line has none of the side's points
abbrev pub is_clear : (Side → ℕ → ℕ) → Side → ℕ → Bool
is_clear c side i = c side i == 0

-- how many points of the line are free
abbrev pub free_by : Shape → (Side → ℕ → ℕ) → ℕ → ℕ
free_by s c i = length (line_in s i) - (c X i + c Y i)

-- whether the line has none of the side's points, and so many free points
unfoldable pub has_free : Shape → (Side → ℕ → ℕ) → Side → ℕ → ℕ → Bool
has_free s c side f i = is_clear c side i && (free_by s c i == f)

-- how many such lines there are
unfoldable pub lines_with : Shape → (Side → ℕ → ℕ) → Side → ℕ → ℕ
lines_with s c side f = count_by (has_free s c side f) (range_with_len 0 (length s.lines))

-- the lines without a point of the side
unfoldable pub clear_lines : Shape → (Side → ℕ → ℕ) → Side → List ℕ
clear_lines s c side = filter (is_clear c side) (range_with_len 0 (length s.lines))

-- the cells agree: no line has more points of both sides than points, and the numbers of lines are
-- those that the counts give
pub record AreCounted (s : Shape) (cells : List ℕ) : Type 0 where
  pub width : length cells ≡ cell_count s
  pub within : (i : ℕ)
      → i < length s.lines
      → count_in s cells X i + count_in s cells Y i ≤ length (line_in s i)
  pub lines : (side : Side) (f : ℕ)
      → f ≤ s.longest
      → lines_in s cells side f ≡ lines_with s (count_in s cells) side f

-- a line of which a point is free
pub record IsUnfilled (s : Shape) (cells : List ℕ) (i : ℕ) : Type 0 where
  pub range : i < length s.lines
  pub free : count_in s cells X i + count_in s cells Y i < length (line_in s i)

-- the counts with one more point of the side in one line
pub record IsCountedMore (s : Shape) (side : Side) (i : ℕ) (cells now : List ℕ) : Type 0 where
  pub counts : (k : Side) (j : ℕ)
      → j < length s.lines
      → count_in s now k j ≡ count_in s cells k j + one_if (is_same_side k side && (j == i))
  pub marks : (k : ℕ) → k ≤ s.points → get_or now k 0 ≡ get_or cells k 0

-- the numbers of the side's lines fall by `less` and rise by `more`, and all other cells stay
pub record IsMoved (s : Shape) (side : Side) (less more : ℕ → ℕ) (cells now : List ℕ) : Type 0 where
  pub own : (f : ℕ)
      → f ≤ s.longest
      → lines_in s now side f + less f ≡ lines_in s cells side f + more f
  pub theirs : (f : ℕ)
      → f ≤ s.longest
      → lines_in s now (other side) f ≡ lines_in s cells (other side) f
  pub counts : (k : Side) (j : ℕ) → j < length s.lines → count_in s now k j ≡ count_in s cells k j
  pub marks : (k : ℕ) → k ≤ s.points → get_or now k 0 ≡ get_or cells k 0
