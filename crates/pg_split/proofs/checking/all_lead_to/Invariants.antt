use Rattle.std.proofs.Common.{take}
use Rattle.std.specs.List.{All}
use Rattle.pg_split.specs.Splits.{LeadsTo}
use Rattle.pg_split.proofs.checking.all_lead_to.Given as goal

abbrev pub invariant-loop-step : goal.invariant-loop-step
invariant-loop-step l = All (LeadsTo l.game l.positions l.position) (take l.step-index l.steps)
