-- A game on vectors has few points.
use Rattle.std.proofs.Common.{◌≤◌, length, arith}
use Rattle.pg_families.specs.Prelude.{MAX_MEMBERS, VecGame}

pub few_vectors : (g : VecGame) → length g.vectors ≤ MAX_MEMBERS
few_vectors g = omega (arith, g.fits.few_vectors)
