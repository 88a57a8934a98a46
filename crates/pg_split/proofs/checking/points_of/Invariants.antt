use Rattle.std.proofs.Common.{take}
use Rattle.pg_split.proofs.Checked.{ArePointsOf}
use Rattle.pg_split.proofs.checking.points_of.Given as goal

abbrev pub invariant-loop-step : goal.invariant-loop-step
invariant-loop-step l = ArePointsOf l.points (take l.step-index l.steps)
