-- The cells of a shape that lie farthest in each direction.
use Rattle.std.specs.Prelude.{ℕ, ◌+◌, ◌-◌, ◌&&◌, nat_lt, Bool, List}
use Rattle.pg_poly.specs.Prelude.{Contains, Grid}
use Rattle.pg_poly.specs.declared.cell.Cell.{Cell}
use Rattle.pg_poly.specs.declared.corners.Corners.{Corners}
use Rattle.pg_poly.specs.declared.motion.Motion.{Motion}
use Rattle.pg_poly.specs.Motions.{IsMovable}

-- they are some of the cells
pub record AreAmong (corners : Corners) (cells : List Cell) : Type 0 where
  pub top : Contains cells corners.top
  pub bottom : Contains cells corners.bottom
  pub left : Contains cells corners.left
  pub right : Contains cells corners.right

-- how far two numbers are apart
abbrev pub apart : ℕ → ℕ → ℕ
apart a b = (a - b) + (b - a)

-- the upper and the lower one are less apart than the grid is high, and the other two than it is
-- wide
abbrev pub are_near : Grid → Corners → Bool
are_near grid corners =
    nat_lt (apart corners.top.row corners.bottom.row) grid.height
    && nat_lt (apart corners.left.column corners.right.column) grid.width

-- the motion brings them into the grid
pub record AreMovable (grid : Grid) (m : Motion) (corners : Corners) : Type 0 where
  pub top : IsMovable grid m corners.top
  pub bottom : IsMovable grid m corners.bottom
  pub left : IsMovable grid m corners.left
  pub right : IsMovable grid m corners.right
