-- The limits of a connectivity game.
use Rattle.std.specs.Prelude.{◌≡◌, ◌≤◌}
use Rattle.pg_span.specs.Prelude.{FinSet, nat_cmp, AreBelow, ShareNone, MAX_VERTICES, IsGraph}
use Rattle.pg_span.specs.Prelude.{edge_count, Graph}

-- a multigraph within the limits, with the terminals 0 and 1, and sides with different edges
pub record AreSpanParts (h : Graph) (x y : FinSet nat_cmp) : Type 0 where
  pub graph : IsGraph h
  pub some_vertices : 2 ≤ h.vertices
  pub few_vertices : h.vertices ≤ MAX_VERTICES
  pub first_terminal : h.s ≡ 0
  pub second_terminal : h.t ≡ 1
  pub x_range : AreBelow x (edge_count h)
  pub y_range : AreBelow y (edge_count h)
  pub disjoint : ShareNone x y
