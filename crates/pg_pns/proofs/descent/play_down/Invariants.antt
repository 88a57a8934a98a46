use Rattle.pg_pns.specs.Descent.{GoesDown, free_at}
use Rattle.pg_pns.proofs.descent.play_down.Given as goal

abbrev pub invariant-loop-v : goal.invariant-loop-v
invariant-loop-v l = GoesDown l.table l.fn.board l.board l.place

abbrev pub decreases-loop-v : goal.decreases-loop-v
decreases-loop-v l = free_at l.fn.board.game l.table l.place
