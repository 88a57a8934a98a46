-- Positions: the points of the two sides, the side to move, and how many points it still claims in
-- this turn.
use Rattle.std.specs.Prelude.{◌≡◌, ℕ, ◌-◌, Bool, true, false, not, ◌&&◌, nat_lt, if◌then◌else◌}
use Rattle.pg_game.specs.Prelude.{FinSet, contains, insert, nat_cmp, Side, X, Y, other}
use Rattle.pg_game.specs.declared.position.Position.{Position}

-- whether neither side has the point
abbrev pub is_free : Position → ℕ → Bool
is_free p v = not (contains p.x v) && not (contains p.y v)

-- the points that a side has
abbrev pub points_of : Position → Side → FinSet nat_cmp
points_of p X = p.x
points_of p Y = p.y

-- how many points a side claims in one turn of a game in which Y claims so many: X claims one
abbrev pub claims_in_turn : ℕ → Side → ℕ
claims_in_turn bias X = 1
claims_in_turn bias Y = bias

-- X's points after the side to move takes a point
abbrev pub x_after : Side → FinSet nat_cmp → ℕ → FinSet nat_cmp
x_after X x v = insert x v
x_after Y x v = x

-- Y's points after the side to move takes a point
abbrev pub y_after : Side → FinSet nat_cmp → ℕ → FinSet nat_cmp
y_after X y v = y
y_after Y y v = insert y v

-- who is to move once the side to move has taken a point: the same side while it claims more, else
-- the other
abbrev pub turn_after : Position → Side
turn_after p = if nat_lt 1 p.left then p.turn else other p.turn

-- how many points that side still claims in its turn
abbrev pub left_after : ℕ → Position → ℕ
left_after bias p = if nat_lt 1 p.left then p.left - 1 else claims_in_turn bias (other p.turn)

-- the position after the side to move takes the point, where Y claims so many points a turn
abbrev pub after_with : ℕ → Position → ℕ → Position
after_with bias p v = record {
  x = x_after p.turn p.x v;
  y = y_after p.turn p.y v;
  turn = turn_after p;
  left = left_after bias p;
}
