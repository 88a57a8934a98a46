-- Positions in few words.
use Rattle.std.specs.Prelude.{◌≡◌, ℕ, ◌+◌, ◌*◌, ◌^◌, ◌<◌, ◌≤◌, List, length, map, drop, get_or}
use Rattle.std.specs.Prelude.{slice_get, Some}
use Rattle.pg_potential.specs.Prelude.{FinSet, range_with_len, nat_cmp, AreWithin, other}
use Rattle.pg_potential.specs.Prelude.{members_below}
use Rattle.pg_potential.specs.Prelude.{Side, X, Game, Position, point_count, points_of, IsNoWorse}
use Rattle.pg_potential.specs.Prelude.{x_after, y_after, turn_after, left_after}
use Rattle.pg_potential.specs.declared.marks.Marks.{Marks}
use Rattle.pg_potential.specs.declared.marks.Turn.{Turn}

-- the set of a row, which takes so many words
abbrev pub set_at : List ℕ → ℕ → ℕ → FinSet nat_cmp
set_at words width row = members_below (drop (width * row) words) (64 * width)

-- what stands for a turn where there is none
abbrev pub no_turn : Turn
no_turn = record { side = X; left = 0 }

-- the position of a number: the rows of its two sets, and its turn
abbrev pub position_at : List ℕ → ℕ → List Turn → ℕ → Position
position_at words width turns k = record {
  x = set_at words width (2 * k);
  y = set_at words width (2 * k + 1);
  turn = (get_or turns k no_turn).side;
  left = (get_or turns k no_turn).left;
}

-- the positions in the order in which they came
unfoldable pub kept : Marks → List Position
kept m =
    map (position_at m.words.items m.width m.turns.items) (range_with_len 0 (length m.turns.items))

-- two rows for each turn, of at most sixteen words
pub record AreFlat (m : Marks) : Type 0 where
  pub count : length m.words.items ≡ m.width * (2 * length m.turns.items)
  pub few : m.width ≤ 16
  pub fit : (i : ℕ) → get_or m.words.items i 0 < 2 ^ 64

-- a row has a place for each point of the game
pub record AreMarksOf (g : Game) (m : Marks) : Type 0 where
  pub flat : AreFlat m
  pub room : point_count g ≤ 64 * m.width

-- the turn is that of p
pub record HasTurnOf (p : Position) (t : Turn) : Type 0 where
  pub side : t.side ≡ p.turn
  pub left : t.left ≡ p.left

-- the turn is the one after a move at p, where Y claims so many points a turn
pub record IsTurnAfter (bias : ℕ) (p : Position) (t : Turn) : Type 0 where
  pub side : t.side ≡ turn_after p
  pub left : t.left ≡ left_after bias p

-- q has the points of p and one more of the side to move
pub record HavePointsAfter (p : Position) (v : ℕ) (q : Position) : Type 0 where
  pub x : q.x ≡ x_after p.turn p.x v
  pub y : q.y ≡ y_after p.turn p.y v

-- the side has all its points of q, and the other side no others than there
pub record KeepsPoints (side : Side) (q p : Position) : Type 0 where
  pub own : AreWithin (points_of q side) (points_of p side)
  pub theirs : AreWithin (points_of p (other side)) (points_of q (other side))

-- there is a position of that number, and p is no worse for the side
pub record IsNoWorseThanKept (m : Marks) (side : Side) (k : ℕ) (p : Position) : Type 0 where
  pub position : Position
  pub at : slice_get (kept m) k ≡ Some position
  pub no_worse : IsNoWorse side position p
