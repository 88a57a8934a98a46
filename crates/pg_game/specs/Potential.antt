-- The potential of Erdős and Selfridge (1973) in whole numbers, at any position, where Y claims q
-- points a turn.
use Rattle.std.specs.Prelude.{ℕ, ◌+◌, ◌-◌, ◌*◌, ◌^◌, ◌<◌, ◌≤◌, max, Bool, true, false, List, []}
use Rattle.std.specs.Prelude.{◌∷◌, length, map, ◌==◌, nat_lt, find, unwrap_or, if◌then◌else◌}
use Rattle.pg_game.specs.Prelude.{list_any, count_by, sum_by, FinSet, nat_cmp, is_same_side, Side}
use Rattle.pg_game.specs.declared.game.Game.{Game}
use Rattle.pg_game.specs.declared.position.Position.{Position}
use Rattle.pg_game.specs.declared.bounds.TheConstants.{MAX_LINE_POINTS}
use Rattle.pg_game.specs.Position.{is_free, points_of}
use Rattle.pg_game.specs.Game.{lines_of, is_touched, free_points}

-- ---- weights of lines, for any base and any side whose points make a line harmless

-- the greatest length of a line, or 0 where there is none
abbrev pub greatest_length : List (List ℕ) → ℕ
greatest_length [] = 0
greatest_length (line ∷ lines) = max (length line) (greatest_length lines)

-- whether the line holds the point
abbrev pub is_on : ℕ → List ℕ → Bool
is_on v line = list_any (λ q. q == v) line

-- the base to the power of k less the line's free points, and 0 for a line with one of the points
unfoldable pub line_weight : ℕ → ℕ → FinSet nat_cmp → Position → List ℕ → ℕ
line_weight base k own p line =
    if is_touched own line then 0 else base ^ (k - count_by (is_free p) line)

-- the sum of the weights of all lines
unfoldable pub total_weight : ℕ → Game → FinSet nat_cmp → Position → ℕ
total_weight base g own p =
    sum_by (line_weight base (greatest_length (lines_of g)) own p) (lines_of g)

-- the sum of the weights of the lines through a point
unfoldable pub point_weight : ℕ → Game → FinSet nat_cmp → Position → ℕ → ℕ
point_weight base g own p v = sum_by
    (λ line. if is_on v line then line_weight base (greatest_length (lines_of g)) own p line else 0)
    (lines_of g)

-- the weight of a line without free points, which a total that is kept below it excludes
unfoldable pub full_weight : ℕ → Game → ℕ
full_weight base g = base ^ greatest_length (lines_of g)

-- a base that isn't zero, for which no weight of a line is too great
pub record IsBaseOf (base : ℕ) (g : Game) : Type 0 where
  pub some : 1 ≤ base
  pub few : full_weight base g ≤ 2 ^ MAX_LINE_POINTS

-- the greatest of numbers, or 0 where there is none
abbrev pub greatest : List ℕ → ℕ
greatest [] = 0
greatest (n ∷ ns) = max n (greatest ns)

-- ---- Breaker's potential: a point of X multiplies the weights of its lines by 1 + q, a point of Y
-- makes its lines harmless

-- the sum of the weights of the lines without a point of the claimer
abbrev pub total : Game → Position → Side → ℕ
total g p side = total_weight (1 + g.bias) g (points_of p side) p

-- the sum of those through a point
abbrev pub weight : Game → Position → Side → ℕ → ℕ
weight g p side v = point_weight (1 + g.bias) g (points_of p side) p v

-- what the total must stay below
abbrev pub limit : Game → ℕ
limit g = full_weight (1 + g.bias) g

-- the greatest weight of a free point, 0 where none is free
abbrev pub greatest_weight : Game → Position → Side → ℕ
greatest_weight g p side = greatest (map (weight g p side) (free_points g p))

-- how often the greatest weight counts: q times where the other side is to move, and as often as
-- the claimer has claimed points in its turn where it is to move
abbrev pub times_counted : Game → Position → Side → ℕ
times_counted g p side = if is_same_side side p.turn then g.bias - p.left else g.bias

-- whether the total with so many of the greatest weight is below the limit
unfoldable pub potential_holds : Game → Position → Side → Bool
potential_holds g p side =
    nat_lt (total g p side + times_counted g p side * greatest_weight g p side) (limit g)

-- the same as a fact
abbrev pub PotentialHolds : Game → Position → Side → Type 0
PotentialHolds g p side =
    total g p side + times_counted g p side * greatest_weight g p side < limit g

-- the lowest free point of greatest weight
unfoldable pub potential_answer : Game → Position → Side → ℕ
potential_answer g p side =
    unwrap_or (find (λ v. weight g p side v == greatest_weight g p side) (free_points g p)) 0
