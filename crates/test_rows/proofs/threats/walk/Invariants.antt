use Rattle.std.proofs.Common.{◌≡◌}
use Rattle.test_rows.proofs.threats.walk.Given as goal

abbrev pub invariant-loop : goal.invariant-loop
invariant-loop l = l.b.game ≡ l.g
