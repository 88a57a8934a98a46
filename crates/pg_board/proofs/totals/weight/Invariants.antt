use Rattle.std.proofs.Common.{◌≡◌, ℕ, take}
use Rattle.pg_board.proofs.Common.{sum_by, points_of, line_weight}
use Rattle.pg_board.specs.Shape.{line_in, lines_through}
use Rattle.pg_board.specs.Fits.{position_of}
use Rattle.pg_board.proofs.totals.weight.Given as goal

abbrev pub invariant-loop-line : goal.invariant-loop-line
invariant-loop-line l = l.weight ≡ sum_by (λ (i : ℕ). line_weight l.fn.base l.layout.longest
    (points_of (position_of l.layout l.trail.cells) l.fn.side) (position_of l.layout l.trail.cells)
    (line_in l.layout i)) (take l.line-index (lines_through l.layout l.fn.v))
