use Rattle.std.proofs.Common.{◌≡◌, ◌+◌, ◌≤◌, [], length}
use Rattle.pg_text.specs.Faults.{reading}
use Rattle.pg_plan.specs.PlanFile.{after}
use Rattle.pg_plan.proofs.reading.read_places.Given as goal

abbrev pub invariant-loop-line : goal.invariant-loop-line
invariant-loop-line l = record {
  so_far : reading after (l.number + 1) l.places.items l.line-iterator
      ≡ reading after 2 [] l.fn.lines;
  count : l.number + length l.line-iterator ≤ length l.fn.lines + 1;
}
