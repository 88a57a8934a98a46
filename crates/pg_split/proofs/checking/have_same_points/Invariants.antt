use Rattle.std.proofs.Common.{◌≡◌, take}
use Rattle.pg_split.specs.Splits.{step_points}
use Rattle.pg_split.proofs.checking.have_same_points.Given as goal

abbrev pub invariant-loop-i : goal.invariant-loop-i
invariant-loop-i l = step_points (take l.i l.steps) ≡ step_points (take l.i l.others)
