use Rattle.std.proofs.Common.{◌≡◌}
use Rattle.pg_check.specs.Tester.{AreInside}
use Rattle.pg_check.proofs.allowed.bits_outside.Given as goal

abbrev pub invariant-loop-i : goal.invariant-loop-i
invariant-loop-i l = record {
  each : l.outside ≡ 0 → AreInside l.first l.second l.inside l.i;
  none : AreInside l.first l.second l.inside l.i → l.outside ≡ 0;
}
