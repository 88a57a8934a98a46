use Rattle.std.proofs.Common.{◌≡◌, take}
use Rattle.pg_computer.proofs.points.first_points.Given as goal

-- so many points were claimed again
abbrev pub invariant-loop-i : goal.invariant-loop-i
invariant-loop-i l =
    l.first ≡ record { game = l.game; events = take l.i l.session.events }
