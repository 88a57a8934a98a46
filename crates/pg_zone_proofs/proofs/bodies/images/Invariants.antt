use Rattle.std.proofs.Common.{◌≡◌, length}
use Rattle.pg_zone_proofs.proofs.bodies.images.Given as goal

abbrev pub invariant-loop-v : goal.invariant-loop-v
invariant-loop-v l = length l.taken.items ≡ l.v-index
