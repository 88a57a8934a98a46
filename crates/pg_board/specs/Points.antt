-- A point that a side claims.
use Rattle.std.specs.Prelude.{◌≡◌, ℕ, ◌-◌, List, [], ◌∷◌, ◌++◌, ◌==◌, if◌then◌else◌}
use Rattle.pg_board.specs.Prelude.{Side, present, without, Cells, with_set}
use Rattle.pg_board.specs.Shape.{Shape, lines_through, mark_cell}
use Rattle.pg_board.specs.Lines.{Claims}
use Rattle.pg_board.specs.Fits.{mark_of}

-- the lines through it are claimed, its mark is the side's, and it is free no more
pub record ClaimsPoint (s : Shape) (side : Side) (v : ℕ) (t now : Cells)
    (lists after free taken : List (List ℕ)) : Type 0 where
  pub between : Cells
  pub lines : Claims s side (lines_through s v) t between lists after
  pub mark : now ≡ with_set between (mark_cell v) (mark_of side)
  pub unlinked : taken ≡ free ++ without v (present free) ∷ []

-- what the cell of the turn holds once the side to move has taken a point
abbrev pub next_turn : ℕ → ℕ → ℕ
next_turn bias left = if left == 0 then bias else left - 1
