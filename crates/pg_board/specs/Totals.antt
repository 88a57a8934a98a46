-- The numbers of a board's live lines, and the weights of its lines and points.
use Rattle.std.specs.Prelude.{◌≡◌, ℕ, zero, suc, ◌+◌, ◌*◌, ◌^◌, ◌<◌, ◌≤◌, Bool, nat_lt, List}
use Rattle.std.specs.Prelude.{length, map, ◌-◌, if◌then◌else◌}
use Rattle.pg_board.specs.Prelude.{count_by, sum_by, MAX_LINE_POINTS, is_same_side, Side, Y}
use Rattle.pg_board.specs.Prelude.{Position, points_of, is_on, line_weight, greatest, x_takes_last}
use Rattle.pg_board.specs.Board.{is_live_with}
use Rattle.pg_board.specs.Shape.{Shape, IsShape}
use Rattle.pg_board.specs.Counts.{AreCounted, count_in}
use Rattle.pg_board.specs.Fits.{Rules, position_of, held_in, free_points_in}

-- ---- live lines

-- how many lines have none of the side's points, and so many free points
unfoldable pub live_with_in : Shape → Position → Side → ℕ → ℕ
live_with_in s p side free = count_by (is_live_with p side free) s.lines

-- ---- weights

-- the number whose first digits to the base these are, the highest first
unfoldable pub in_base : ℕ → (ℕ → ℕ) → ℕ → ℕ
in_base base digit zero = 0
in_base base digit (suc n) = in_base base digit n * base + digit n

-- the sum of the weights of the lines without a point of the side
unfoldable pub total_in : ℕ → Shape → Position → Side → ℕ
total_in base s p side = sum_by (line_weight base s.longest (points_of p side) p) s.lines

-- the sum of those through a point
unfoldable pub weight_in : ℕ → Shape → Position → Side → ℕ → ℕ
weight_in base s p side v = sum_by (λ line.
    if is_on v line then line_weight base s.longest (points_of p side) p line else 0) s.lines

-- the greatest of a free point, 0 where none is free
unfoldable pub greatest_in : ℕ → Shape → Position → Side → ℕ
greatest_in base s p side = greatest (map (weight_in base s p side) (free_points_in s p))

-- ---- the tests

-- how often the greatest weight counts
abbrev pub times_in : Rules → Position → Side → ℕ
times_in r p side = if is_same_side side p.turn then r.bias - p.left else r.bias

-- whether the potential is low enough for the side
unfoldable pub potential_in : Rules → Position → Side → Bool
potential_in r p side = nat_lt (total_in (1 + r.bias) r.shape p side
    + times_in r p side * greatest_in (1 + r.bias) r.shape p side) ((1 + r.bias) ^ r.shape.longest)

-- the total of Avoider's weights, twice where Avoider takes the last point
abbrev pub risk_in : Rules → Position → ℕ
risk_in r p = if x_takes_last r.bias p.turn p.left (length (free_points_in r.shape p))
    then 2 * total_in 2 r.shape p Y
    else total_in 2 r.shape p Y

-- whether that is low enough
unfoldable pub avoider_in : Rules → Position → Bool
avoider_in r p = nat_lt (risk_in r p) (2 ^ r.shape.longest)

-- ---- how the cells stand for it

-- the cells agree with the position that they say
pub record Agree (s : Shape) (cells : List ℕ) : Type 0 where
  pub shape : IsShape s
  pub counted : AreCounted s cells
  pub counts : (k : Side) (i : ℕ)
      → i < length s.lines
      → count_in s cells k i ≡ held_in s (position_of s cells) k i

-- a base for which no weight is too great
pub record IsBase (base : ℕ) (s : Shape) : Type 0 where
  pub some : 1 ≤ base
  pub few : base ^ s.longest ≤ 2 ^ MAX_LINE_POINTS
