use Rattle.std.proofs.Common.{◌≡◌, [], replicate}
use Rattle.pg_board.proofs.layout.no_rows.Given as goal

abbrev pub invariant-loop-v : goal.invariant-loop-v
invariant-loop-v l = l.rows.items ≡ replicate l._v []
