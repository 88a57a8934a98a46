use Rattle.std.proofs.Common.{◌≡◌}
use Rattle.test_criteria.proofs.edge_sets.tally_turn.Given as goal

abbrev pub invariant-loop-number : goal.invariant-loop-number
invariant-loop-number l = record { judge : l.judge ≡ l.fn.judge; joiner : l.joiner ≡ l.fn.joiner }
