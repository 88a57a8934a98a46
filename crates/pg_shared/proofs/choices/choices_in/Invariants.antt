use Rattle.std.proofs.Common.{◌≤◌, ◌-◌}
use Rattle.pg_shared.proofs.choices.choices_in.Given as goal

abbrev pub invariant-loop-a : goal.invariant-loop-a
invariant-loop-a l = l.next ≤ 1024

abbrev pub decreases-loop-a : goal.decreases-loop-a
decreases-loop-a l = 1024 - l.next
