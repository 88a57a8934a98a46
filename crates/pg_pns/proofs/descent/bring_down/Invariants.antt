use Rattle.pg_pns.specs.Descent.{IsOnWay, KeepsFirst, free_at}
use Rattle.pg_pns.proofs.descent.bring_down.Given as goal

abbrev pub invariant-loop-v : goal.invariant-loop-v
invariant-loop-v l = IsOnWay l.table l.place × KeepsFirst l.fn.board l.board

abbrev pub decreases-loop-v : goal.decreases-loop-v
decreases-loop-v l = free_at l.fn.board.game l.table l.place
