-- A turn that passes.
use Rattle.std.specs.Prelude.{◌≡◌, ℕ, ◌≤◌, ◌==◌, length, get_or, if◌then◌else◌}
use Rattle.pg_board.specs.Prelude.{Position, other, with_cell}
use Rattle.pg_board.specs.Board.{View}
use Rattle.pg_board.specs.Shape.{turn_cell}

-- the position with the other side to move, where each side claims one point a turn
abbrev pub passed : Position → Position
passed p = record { x = p.x; y = p.y; turn = other p.turn; left = p.left }

-- what the cell of the turn holds then
abbrev pub other_turn : ℕ → ℕ
other_turn n = if n == 0 then 1 else 0

-- The other side is to move, and nothing else is changed: no play is added to those that can be
-- taken back.
pub record IsPassed (old new : View) : Type 0 where
  pub game : new.game ≡ old.game
  pub earlier : new.earlier ≡ old.earlier
  pub position : new.stand.position ≡ passed old.stand.position
  pub trail : new.stand.trail
      ≡ with_cell old.stand.trail turn_cell (other_turn (get_or old.stand.trail.cells turn_cell 0))
  pub few : get_or old.stand.trail.cells turn_cell 0 ≤ 1
  pub some : 1 ≤ length old.stand.trail.cells
