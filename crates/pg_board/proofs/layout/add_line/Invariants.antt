use Rattle.pg_board.proofs.Gathering.{AreGathering}
use Rattle.std.proofs.Common.{length}
use Rattle.pg_board.proofs.layout.add_line.Given as goal

abbrev pub invariant-loop-v : goal.invariant-loop-v
invariant-loop-v l = AreGathering l.lines l.i l.v-index (length l.fn.rows) l.rows
