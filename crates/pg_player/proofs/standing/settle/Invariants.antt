use Rattle.std.proofs.Common.{◌≡◌, ◌+◌, ◌-◌}
use Rattle.pg_cert.specs.OwnMove.{settled, settled_within}
use Rattle.pg_player.proofs.standing.settle.Given as goal

abbrev pub invariant-loop-step : goal.invariant-loop-step
invariant-loop-step l =
    settled_within (l.number + 1 - l._step) l.claim.nodes l.at ≡ settled l.claim.nodes l.number
