use Rattle.std.proofs.Common.{◌≤◌, length}
use Rattle.pg_unfold.specs.Marks.{HasPassed}
use Rattle.pg_unfold.proofs.met.pass_down.Given as goal

abbrev pub invariant-loop-key : goal.invariant-loop-key
invariant-loop-key l = record {
  place : l.key ≤ length l.marks;
  passed : HasPassed l.nodes l.key l.marks;
}

abbrev pub decreases-loop-key : goal.decreases-loop-key
decreases-loop-key l = l.key
