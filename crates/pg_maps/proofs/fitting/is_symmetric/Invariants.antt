use Rattle.std.proofs.Common.{[], ◌∷◌}
use Rattle.pg_maps.specs.GridMaps.{identity}
use Rattle.pg_maps.specs.Images.{AreFitting}
use Rattle.pg_maps.proofs.fitting.is_symmetric.Given as goal

abbrev pub invariant-loop-number : goal.invariant-loop-number
invariant-loop-number l = AreFitting l.g l.number (identity ∷ [])
