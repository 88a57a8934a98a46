use Rattle.pg_backing.proofs.Known.{AreKnownBelow}
use Rattle.pg_backing.proofs.backing.spans_of.Given as goal

abbrev pub invariant-loop-i : goal.invariant-loop-i
invariant-loop-i l = AreKnownBelow l.game l.plan l.positions l.own l.spans.items l.i
