use Rattle.std.proofs.Common.{◌≡◌, not}
use Rattle.pg_switch.proofs.Common.{contains, below}
use Rattle.pg_switch.proofs.condition.edges_left.Given as goal

abbrev pub invariant-loop-k : goal.invariant-loop-k
invariant-loop-k l = contains l.left ≡ below (λ f. not (contains l.set f)) l.k
