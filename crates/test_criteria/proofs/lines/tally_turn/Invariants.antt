use Rattle.std.proofs.Common.{◌≡◌}
use Rattle.test_criteria.proofs.lines.tally_turn.Given as goal

abbrev pub invariant-loop-number : goal.invariant-loop-number
invariant-loop-number l = l.judge ≡ l.fn.judge
