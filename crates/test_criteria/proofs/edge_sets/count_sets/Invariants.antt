use Rattle.std.proofs.Common.{◌≡◌}
use Rattle.test_criteria.proofs.edge_sets.count_sets.Given as goal

abbrev pub invariant-loop-number : goal.invariant-loop-number
invariant-loop-number l = l.joiner ≡ l.fn.joiner
