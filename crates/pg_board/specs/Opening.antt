-- A board while it is opened.
use Rattle.std.specs.Prelude.{◌≡◌, ℕ, ◌+◌, ◌-◌, ◌<◌, ◌≤◌, true, ◌&&◌, ◌==◌, List, length, get_or}
use Rattle.std.specs.Prelude.{nat_lt}
use Rattle.pg_board.specs.Prelude.{count_by, range_with_len, contains, Side, X, Y, Position}
use Rattle.pg_board.specs.Prelude.{is_free, points_of, Cells}
use Rattle.pg_board.specs.Shape.{Shape, line_in, cell_count}
use Rattle.pg_board.specs.Counts.{lines_in}
use Rattle.pg_board.specs.Fits.{Rules, Fits, position_of, summed, entries_of}
use Rattle.pg_board.specs.declared.rings.Rings.{Rings}

-- the cells without a mark, X to move, with the first lines counted by their lengths
pub record AreBlank (s : Shape) (lines : ℕ) (cells : List ℕ) : Type 0 where
  pub width : length cells ≡ cell_count s
  pub zeros : (k : ℕ) → k < 1 + s.points + length s.lines + length s.lines → get_or cells k 0 ≡ 0
  pub counted : (k : Side) (f : ℕ)
      → f ≤ s.longest
      → lines_in s cells k f ≡ count_by (λ i. length (line_in s i) == f) (range_with_len 0 lines)

-- how many entries the opening and the whole game may add
unfoldable pub whole_room : Shape → ℕ
whole_room s = summed (entries_of s) (λ _. true) s.points + s.points + 1

-- the first points of the position are marked
pub record Opens (r : Rules) (p : Position) (v : ℕ) (t : Cells) (rings : Rings) : Type 0 where
  pub fits : Fits r t rings.live_x rings.live_y rings.free
  pub marks : (side : Side) (q : ℕ)
      → contains (points_of (position_of r.shape t.cells) side) q
      ≡ (contains (points_of p side) q && nat_lt q v)
  pub room : summed (entries_of r.shape) (is_free (position_of r.shape t.cells)) r.shape.points
      + (r.shape.points - v) + 1 ≤ t.spare

-- what the cell of the turn holds for a side with so many points left
abbrev pub turn_code : Side → ℕ → ℕ
turn_code X left = 0
turn_code Y left = left
