use Rattle.std.proofs.Common.{◌≡◌}
use Rattle.test_criteria.proofs.lines.tally_claim.Given as goal

abbrev pub invariant-loop-left : goal.invariant-loop-left
invariant-loop-left l = l.judge ≡ l.fn.judge
