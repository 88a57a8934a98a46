use Rattle.std.proofs.Common.{length}
use Rattle.pg_pns.specs.Descent.{KeepsFirst}
use Rattle.pg_pns.proofs.descent.go_up.Given as goal

abbrev pub invariant-loop-board : goal.invariant-loop-board
invariant-loop-board l = KeepsFirst l.fn.board l.board

abbrev pub decreases-loop-board : goal.decreases-loop-board
decreases-loop-board l = length l.board.earlier
