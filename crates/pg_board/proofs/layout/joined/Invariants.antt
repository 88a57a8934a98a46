use Rattle.std.proofs.Common.{◌≡◌, take}
use Rattle.pg_board.proofs.layout.joined.Given as goal

abbrev pub invariant-loop-row : goal.invariant-loop-row
invariant-loop-row l = l.all ≡ take l.row-index l.rows
