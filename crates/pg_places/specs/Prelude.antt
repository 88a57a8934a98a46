-- What the definitions of this crate name of std and of the crates below.
pub use Rattle.pg_base.specs.declared.limits.TheConstants.{MAX_EDGES}
pub use Rattle.pg_game.specs.declared.bounds.TheConstants.{MAX_VERTICES}
pub use Rattle.pg_gen.specs.declared.limits.TheConstants.{MAX_BRIDGE_ROWS}
pub use Rattle.pg_layout.specs.Layouts.{IsLayout, spots_of}
pub use Rattle.pg_layout.specs.declared.chart.Chart.{Chart}
pub use Rattle.pg_layout.specs.declared.spot.Spot.{Spot}
pub use Rattle.pg_picture.specs.declared.shape.Place.{Place}
pub use Rattle.std.specs.List.{count_by}
