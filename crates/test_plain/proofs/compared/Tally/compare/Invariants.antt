use Rattle.std.proofs.Common.{◌≡◌}
use Rattle.test_plain.proofs.compared.Tally.compare.Given as goal

abbrev pub invariant-loop-depth : goal.invariant-loop-depth
invariant-loop-depth l = l.b ≡ l.initial.b
