-- How the fields of a board stand for what it is seen as.
use Rattle.std.specs.Prelude.{◌≡◌, ◌≢◌, ℕ, zero, suc, ◌+◌, ◌-◌, ◌*◌, ◌^◌, ◌<◌, ◌≤◌, Bool, not, ◌==◌}
use Rattle.std.specs.Prelude.{List, [], ◌∷◌, ◌++◌, length, get_or, take, if◌then◌else◌}
use Rattle.pg_board.specs.Prelude.{count_by, filter, range_with_len, FinSet, empty, insert}
use Rattle.pg_board.specs.Prelude.{contains, nat_cmp, MAX_LINE_POINTS, Switching, Side, X, Y, Game}
use Rattle.pg_board.specs.Prelude.{Position, is_free, points_of, after_with, is_touched}
use Rattle.pg_board.specs.Prelude.{is_same_side, present, Cells, back_to, with_cell}
use Rattle.pg_board.specs.Board.{Stand}
use Rattle.pg_board.specs.Shape.{Shape, IsShape, shape_of, line_in, lines_through, degree_in}
use Rattle.pg_board.specs.Shape.{turn_cell, mark_cell}
use Rattle.pg_board.specs.Counts.{AreCounted, count_in, clear_lines}
use Rattle.pg_board.specs.Lines.{clear_in}
use Rattle.pg_board.specs.declared.plays.Played.{Played}

-- ---- the position that the cells say

-- the mark of a side's points
abbrev pub mark_of : Side → ℕ
mark_of X = 1
mark_of Y = 2

-- whether the point's mark is the side's
unfoldable pub has_mark : List ℕ → Side → ℕ → Bool
has_mark cells side v = get_or cells (mark_cell v) 0 == mark_of side

-- the numbers below n that pass
unfoldable pub set_below : (ℕ → Bool) → ℕ → FinSet nat_cmp
set_below t zero = empty
set_below t (suc n) = if t n then insert (set_below t n) n else set_below t n

-- the side to move: X where the cell of the turn holds 0
unfoldable pub turn_of : ℕ → Side
turn_of zero = X
turn_of (suc k) = Y

-- how many points it still claims: Y as many as the cell holds
unfoldable pub left_of : ℕ → ℕ
left_of zero = 1
left_of (suc k) = suc k

unfoldable pub position_of : Shape → List ℕ → Position
position_of s cells = record {
  x = set_below (has_mark cells X) s.points;
  y = set_below (has_mark cells Y) s.points;
  turn = turn_of (get_or cells turn_cell 0);
  left = left_of (get_or cells turn_cell 0);
}

-- ---- the rules, and how a board stands by its cells

-- what of a game the plays read
pub record Rules : Type 0 where
  pub bias : ℕ
  pub shape : Shape

abbrev pub rules_of : Game → Rules
rules_of g = record { bias = g.bias; shape = shape_of g }

abbrev pub stand_of : Shape → Cells → Stand
stand_of s t = record { position = position_of s t.cells; trail = t }

-- how the board was before each of the plays, which come last first
unfoldable pub earlier_of : Shape → Cells → List Played → List Stand
earlier_of s t [] = []
earlier_of s t (play ∷ plays) =
    earlier_of s (back_to play.level t) plays ++ stand_of s (back_to play.level t) ∷ []

-- ---- what the board answers, by its lines

-- the lines without a point of the side, ascending
unfoldable pub live_lines_in : Shape → Position → Side → List ℕ
live_lines_in s p side = filter (λ i. not (is_touched (points_of p side) (line_in s i)))
    (range_with_len 0 (length s.lines))

-- the free points, ascending
unfoldable pub free_points_in : Shape → Position → List ℕ
free_points_in s p = filter (is_free p) (range_with_len 0 s.points)

-- how many points of the line the side has
abbrev pub held_in : Shape → Position → Side → ℕ → ℕ
held_in s p side i = count_by (contains (points_of p side)) (line_in s i)

-- ---- how the fields stand for it

-- a sum over the numbers below n that pass
unfoldable pub summed : (ℕ → ℕ) → (ℕ → Bool) → ℕ → ℕ
summed f t zero = 0
summed f t (suc n) = summed f t n + (if t n then f n else 0)

-- how many entries a play of the point may add
abbrev pub entries_of : Shape → ℕ → ℕ
entries_of s v = 2 + 4 * degree_in s v

-- the first for X, the second for Y
abbrev pub pick : Side → List (List ℕ) → List (List ℕ) → List (List ℕ)
pick X x y = x
pick Y x y = y

-- the cells agree with the position that they say, the rings are its live lines and its free
-- points, and the trail has room for the rest of the game
pub record Fits (r : Rules) (t : Cells) (x y free : List (List ℕ)) : Type 0 where
  pub shape : IsShape r.shape
  pub some_bias : 1 ≤ r.bias
  pub few_bias : r.bias ≤ 7
  pub few_weights : (1 + r.bias) ^ r.shape.longest ≤ 2 ^ MAX_LINE_POINTS
  pub turn : get_or t.cells turn_cell 0 ≤ r.bias
  pub counted : AreCounted r.shape t.cells
  pub counts : (k : Side) (i : ℕ)
      → i < length r.shape.lines
      → count_in r.shape t.cells k i ≡ held_in r.shape (position_of r.shape t.cells) k i
  pub live : (k : Side) → present (pick k x y) ≡ clear_lines r.shape (count_in r.shape t.cells) k
  pub free_is : present free ≡ free_points_in r.shape (position_of r.shape t.cells)
  pub some_live : (k : Side) → 1 ≤ length (pick k x y)
  pub some_free : 1 ≤ length free
  pub room : summed (entries_of r.shape) (is_free (position_of r.shape t.cells)) r.shape.points
      ≤ t.spare

-- how many lines left the side's ring when the side to move took the point
unfoldable pub left_by : Shape → List ℕ → Side → ℕ → ℕ
left_by s cells k v = if is_same_side k (turn_of (get_or cells turn_cell 0))
    then clear_in s cells k (lines_through s v)
    else 0

-- the lists without the last k
abbrev pub fewer : ℕ → List (List ℕ) → List (List ℕ)
fewer k lists = take (length lists - k) lists

-- a play that can be taken back, whatever the cell of the turn holds now
pub record IsPlayed (r : Rules) (t : Cells) (x y free : List (List ℕ))
    (play : Played) : Type 0 where
  pub level : play.level ≤ length t.entries
  pub range : play.point < r.shape.points
  pub lists : (k : Side)
      → left_by r.shape (back_to play.level t).cells k play.point < length (pick k x y)
  pub free_lists : 2 ≤ length free
  pub one_more : length (present (fewer 1 free)) ≡ length (present free) + 1
  pub turn : (n : ℕ) → back_to play.level (with_cell t turn_cell n) ≡ back_to play.level t

-- the play leads from the one to the other, and back
pub record PlaysBack (r : Rules) (t : Cells) (x y free : List (List ℕ)) (now : Cells)
    (x_now y_now free_now : List (List ℕ)) (play : Played) : Type 0 where
  pub played : IsPlayed r now x_now y_now free_now play
  pub trail : back_to play.level now ≡ t
  pub x_back : fewer (left_by r.shape t.cells X play.point) x_now ≡ x
  pub y_back : fewer (left_by r.shape t.cells Y play.point) y_now ≡ y
  pub free_back : fewer 1 free_now ≡ free

-- what a play of the point makes of a board that fits
pub record Leads (r : Rules) (t : Cells) (x y free : List (List ℕ)) (now : Cells)
    (x_now y_now free_now : List (List ℕ)) (v : ℕ) : Type 0 where
  pub fits : Fits r now x_now y_now free_now
  pub position : position_of r.shape now.cells ≡ after_with r.bias (position_of r.shape t.cells) v
  pub back : PlaysBack r t x y free now x_now y_now free_now
      (record { point = v; level = length t.entries })
  pub entries : length now.entries ≤ length t.entries + (2 + 4 * degree_in r.shape v)
  pub one_fewer : length (present free_now) + 1 ≡ length (present free)
  pub spare : t.spare ≤ now.spare + (2 + 4 * degree_in r.shape v)

-- the board fits now, and so it did before each of the plays, which come last first
unfoldable pub AreFit : Rules
    → Cells
    → List (List ℕ)
    → List (List ℕ)
    → List (List ℕ)
    → List Played
    → Type 0
AreFit r t x y free [] = Fits r t x y free
AreFit r t x y free (play ∷ plays) = Fits r t x y free
    × IsPlayed r t x y free play
    × AreFit r (back_to play.level t)
    (fewer (left_by r.shape (back_to play.level t).cells X play.point) x)
    (fewer (left_by r.shape (back_to play.level t).cells Y play.point) y) (fewer 1 free) plays

-- a board of the game: the layout is the game's, it fits now and so it did before each of the
-- plays, which come last first, and there is room for a play of each free point
pub record IsBoard (g : Game) (s : Shape) (t : Cells) (x y free : List (List ℕ))
    (played : List Played) (room : ℕ) : Type 0 where
  pub has_lines : g.kind ≢ Switching
  pub layout : s ≡ shape_of g
  pub fit : AreFit (record { bias = g.bias; shape = s }) t x y free played
  pub places : length played + length (present free) ≤ room
