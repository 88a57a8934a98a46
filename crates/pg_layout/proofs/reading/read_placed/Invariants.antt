use Rattle.std.proofs.Common.{◌≡◌, ◌+◌, ◌≤◌, [], length}
use Rattle.pg_layout.proofs.Common.{reading}
use Rattle.pg_layout.specs.LayoutFile.{after}
use Rattle.pg_layout.proofs.reading.read_placed.Given as goal

abbrev pub invariant-loop-line : goal.invariant-loop-line
invariant-loop-line l = record {
  so_far : reading (after l.points) (l.number + 1) l.placed.items l.line-iterator
      ≡ reading (after l.points) 1 [] l.fn.lines;
  count : l.number + length l.line-iterator ≤ length l.fn.lines;
}
