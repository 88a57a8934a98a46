use Rattle.pg_zone_proofs.specs.Prelude.{All, IsPair}
use Rattle.pg_zone_proofs.proofs.bodies.free_pairs.Given as goal

abbrev pub invariant-loop-pair : goal.invariant-loop-pair
invariant-loop-pair l = All IsPair l.kept.items
