use Rattle.std.proofs.Common.{◌≡◌, ◌<◌, ◌&&◌, ℕ, not, false}
use Rattle.pg_pairing.proofs.Common.{contains, is_free}
use Rattle.pg_pairing.proofs.answers.lowest_outside.Given as goal

abbrev pub invariant-loop-v : goal.invariant-loop-v
invariant-loop-v l = (q : ℕ) → q < l.v → (is_free l.p q && not (contains l.points q)) ≡ false
