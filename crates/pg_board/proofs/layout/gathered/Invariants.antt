use Rattle.std.proofs.Common.{◌≡◌, length}
use Rattle.pg_board.specs.Gathered.{AreGathered}
use Rattle.pg_board.proofs.layout.gathered.Given as goal

abbrev pub invariant-loop-i : goal.invariant-loop-i
invariant-loop-i l = record {
  count : length l.rows ≡ length l.fn.rows;
  gathered : AreGathered l.lines l.i l.rows;
}
