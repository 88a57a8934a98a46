use Rattle.std.proofs.Common.{◌≡◌, ℕ, take}
use Rattle.std.specs.FinSet.{contains}
use Rattle.pg_backing.specs.Backed.{is_moved}
use Rattle.pg_backing.proofs.backing.points_of.Given as goal

abbrev pub invariant-loop-step : goal.invariant-loop-step
invariant-loop-step l = (v : ℕ)
    → contains l.points v ≡ is_moved l.game l.position (take l.step-index l.steps) v
