use Rattle.std.proofs.Common.{◌-◌, length}
use Rattle.pg_backing.proofs.Placed.{AreStanding}
use Rattle.pg_backing.proofs.standing.positions_of.Given as goal

abbrev pub invariant-loop-done : goal.invariant-loop-done
invariant-loop-done l =
    AreStanding l.game l.plan l.positions.items (length l.plan - l.done)
