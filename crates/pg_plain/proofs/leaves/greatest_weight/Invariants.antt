use Rattle.std.proofs.Common.{◌≡◌}
use Rattle.pg_plain.proofs.Common.{is_free, weight, running}
use Rattle.pg_plain.proofs.leaves.greatest_weight.Given as goal

abbrev pub invariant-loop-v : goal.invariant-loop-v
invariant-loop-v l = l.greatest ≡ running (is_free l.p) (weight l.g l.p l.side) l.v
