use Rattle.pg_undo.proofs.Starting.{AreFilled}
use Rattle.pg_undo.proofs.ring.Ring.new.Given as goal

abbrev pub invariant-loop-i : goal.invariant-loop-i
invariant-loop-i l = AreFilled l.n l.i l.next.items l.previous.items
