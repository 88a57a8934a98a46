use Rattle.std.proofs.Common.{◌≡◌, take}
use Rattle.pg_moves.specs.Best.{points_with}
use Rattle.pg_moves.proofs.best.points_with.Given as goal

abbrev pub invariant-loop-trial : goal.invariant-loop-trial
invariant-loop-trial l = l.points.items ≡ points_with l.score (take l.trial-index l.trials)
