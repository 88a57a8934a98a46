use Rattle.std.proofs.Common.{◌≡◌, ◌+◌, ◌≤◌, [], length}
use Rattle.pg_text.specs.Faults.{reading}
use Rattle.pg_record.specs.RecordFile.{after}
use Rattle.pg_record.proofs.reading.read_events.Given as goal

abbrev pub invariant-loop-line : goal.invariant-loop-line
invariant-loop-line l = record {
  so_far : reading (after l.g) (l.number + 1) l.session.events l.line-iterator
      ≡ reading (after l.g) 2 [] l.fn.lines;
  count : l.number + length l.line-iterator ≤ length l.fn.lines + 1;
  game : l.session.game ≡ l.g;
}
