use Rattle.std.proofs.Common.{◌≤◌, ◌-◌}
use Rattle.pg_shared.proofs.choices.put_choices.Given as goal

abbrev pub invariant-loop-b : goal.invariant-loop-b
invariant-loop-b l = l.next ≤ 1024

abbrev pub decreases-loop-b : goal.decreases-loop-b
decreases-loop-b l = 1024 - l.next
