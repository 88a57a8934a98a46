-- What the proofs of this crate name of std and of the crates below.
pub use Rattle.pg_draw.specs.Prelude.{Board, CELL, Course, Graph, Grid, HALF, IsBoard, IsWithin}
pub use Rattle.pg_draw.specs.Prelude.{Item, Laid, Look, Table}
pub use Rattle.pg_draw.specs.Prelude.{MARGIN, Spot, place_on_chart, spot_or_corner, spots_of}
pub use Rattle.pg_draw.specs.Prelude.{MAX_ON_RING, Place, ROW, Ring, Scene, TOP, Words, at}
pub use Rattle.pg_draw.specs.Prelude.{column_of, columns_of, farther, part_of, place_by}
pub use Rattle.pg_draw.specs.Prelude.{place_of_edge, place_on_ring, points_on, radius_of, row_of}
pub use Rattle.pg_draw.specs.Prelude.{range_with_len, vertices_on}
pub use Rattle.pg_draw.specs.Prelude.{Game, IsBoardOf, are_drawn, lane_of, lines_of}
unfoldable pub use Rattle.pg_draw.specs.Prelude.{place_of_spot, place_on_bridge, place_on_circle}
unfoldable pub use Rattle.pg_draw.specs.Prelude.{place_on_grid}
pub use Rattle.std.proofs.Math.Nat.{div-lt_iff_lt-mul, mul_comm}
pub use Rattle.std.proofs.lemmas.Bool.{and_parts, cases_Bool}
pub use Rattle.std.proofs.lemmas.Bool.Decides.{nat_tests}
pub use Rattle.std.proofs.lemmas.Nat.{mod_below}
