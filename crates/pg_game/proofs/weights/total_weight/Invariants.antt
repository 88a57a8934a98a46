use Rattle.std.proofs.Common.{◌≡◌, take}
use Rattle.std.specs.List.{sum_by}
use Rattle.pg_game.specs.Potential.{line_weight}
use Rattle.pg_game.proofs.weights.total_weight.Given as goal

abbrev pub invariant-loop-line : goal.invariant-loop-line
invariant-loop-line l =
    l.total ≡ sum_by (line_weight l.base l.longest l.own l.p) (take l.line-index l.lines)
