use Rattle.std.proofs.Common.{◌≡◌, ◌<◌, length}
use Rattle.pg_zone_proofs.specs.Prelude.{All, MAX_MEMBERS}
use Rattle.pg_zone_proofs.proofs.bodies.widened.Given as goal

abbrev pub invariant-loop-v : goal.invariant-loop-v
invariant-loop-v l = record {
  range : All (λ p. p < MAX_MEMBERS) l.wide.items;
  count : length l.wide.items ≡ l.v-index;
}
