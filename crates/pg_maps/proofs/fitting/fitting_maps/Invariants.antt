use Rattle.pg_maps.specs.Images.{AreFitting}
use Rattle.pg_maps.proofs.fitting.fitting_maps.Given as goal

abbrev pub invariant-loop-number : goal.invariant-loop-number
invariant-loop-number l = AreFitting l.g l.number l.maps.items
