use Rattle.std.proofs.Common.{◌≡◌, length}
use Rattle.pg_dfpn.proofs.moving.go_up_to.Given as goal

abbrev pub invariant-loop-board : goal.invariant-loop-board
invariant-loop-board l = l.board.game ≡ l.fn.board.game

abbrev pub decreases-loop-board : goal.decreases-loop-board
decreases-loop-board l = length l.board.earlier
