use Rattle.std.proofs.Common.{◌≡◌, take}
use Rattle.std.specs.List.{sum_by}
use Rattle.pg_potential.proofs.Common.{lines_of, points_of}
use Rattle.pg_game.specs.Potential.{line_weight}
use Rattle.pg_potential.proofs.totals.total_by_masks.Given as goal

abbrev pub invariant-loop-mask : goal.invariant-loop-mask
invariant-loop-mask l = l.total
    ≡ sum_by (line_weight l.base l.longest (points_of l.p l.side) l.p)
    (take l.mask-index (lines_of l.g))
