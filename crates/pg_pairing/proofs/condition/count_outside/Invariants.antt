use Rattle.std.proofs.Common.{◌≡◌, ◌≤◌, ◌&&◌, not}
use Rattle.pg_pairing.proofs.Common.{contains, is_free, passed}
use Rattle.pg_pairing.proofs.condition.count_outside.Given as goal

abbrev pub invariant-loop-v : goal.invariant-loop-v
invariant-loop-v l = record {
  counted : l.outside ≡ passed (λ v. is_free l.p v && not (contains l.points v)) l.v;
  few : l.outside ≤ l.v;
}
