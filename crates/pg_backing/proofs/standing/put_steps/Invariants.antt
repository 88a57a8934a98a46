use Rattle.std.proofs.Common.{take}
use Rattle.pg_backing.specs.Ways.{ArePut, moved}
use Rattle.pg_backing.proofs.standing.put_steps.Given as goal

abbrev pub invariant-loop-step : goal.invariant-loop-step
invariant-loop-step l =
    ArePut (moved l.game l.position (take l.step-index l.steps)) l.fn.positions l.positions
