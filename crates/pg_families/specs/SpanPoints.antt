-- A connectivity game has few points.
use Rattle.std.proofs.Common.{◌≤◌, arith}
use Rattle.pg_families.specs.Prelude.{MAX_MEMBERS, edge_count, SpanGame}

pub few_edges : (g : SpanGame) → edge_count g.graph ≤ MAX_MEMBERS
few_edges g = omega (arith, g.fits.graph.few_edges)
