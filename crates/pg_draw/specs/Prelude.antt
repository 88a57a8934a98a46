-- What the definitions of this crate name of std and of the crates below.
pub use Rattle.pg_base.specs.declared.limits.TheConstants.{MAX_EDGES}
pub use Rattle.pg_game.specs.Game.{lines_of}
pub use Rattle.pg_game.specs.declared.bounds.TheConstants.{MAX_POINTS, MAX_VERTICES}
pub use Rattle.pg_game.specs.declared.game.Game.{Game}
pub use Rattle.pg_gf2.specs.declared.game.TheConstants.{MAX_VECTORS}
pub use Rattle.pg_gen.specs.declared.limits.TheConstants.{MAX_BRIDGE_ROWS}
pub use Rattle.pg_layout.specs.Layouts.{spots_of}
pub use Rattle.pg_layout.specs.declared.spot.Spot.{Spot}
pub use Rattle.pg_picture.specs.declared.picture.Picture.{Picture}
pub use Rattle.pg_picture.specs.declared.shape.Place.{Place}
pub use Rattle.pg_picture.specs.declared.shape.Shape.{Shape}
pub use Rattle.pg_picture.specs.declared.shape.Shape.TheVariants.{Bow, Disc, Square, Stroke, Words}
pub use Rattle.pg_places.specs.Courses.{course_of, courses_behind, farther, farthest}
pub use Rattle.pg_places.specs.Courses.{have_same_ends, place_of_edge, place_on}
pub use Rattle.pg_places.specs.Places.{IsPlan, IsWithin, at, column_of, columns_of, lower}
pub use Rattle.pg_places.specs.Places.{lower_right, part_of, place_by, place_of_end}
pub use Rattle.pg_places.specs.Places.{place_on_chart, place_on_ring, radius_of, row_of}
pub use Rattle.pg_places.specs.Places.{spot_or_corner, upper_left, upper_right}
unfoldable pub use Rattle.pg_places.specs.Places.{place_of_spot, place_on_bridge, place_on_circle}
unfoldable pub use Rattle.pg_places.specs.Places.{place_on_grid}
pub use Rattle.pg_places.specs.declared.course.Course.{Course}
pub use Rattle.pg_places.specs.declared.course.Course.TheVariants.{Around, Bent, Straight}
pub use Rattle.pg_places.specs.declared.measures.TheConstants.{APART, CELL, HALF, MARGIN}
pub use Rattle.pg_places.specs.declared.measures.TheConstants.{MAX_ON_RING, ROW, TOP}
pub use Rattle.pg_places.specs.declared.vertices.Plan.{Plan}
pub use Rattle.pg_captions.specs.Look.{are_drawn}
pub use Rattle.pg_scene.specs.Items.{lane_of, overlap}
pub use Rattle.pg_scene.specs.Limits.{IsBoard, points_on, vertices_on}
pub use Rattle.pg_scene.specs.Scenes.{IsBoardOf}
pub use Rattle.pg_scene.specs.declared.board.Board.{Board}
pub use Rattle.pg_scene.specs.declared.board.Board.TheVariants.{Graph, Grid, Laid, Ring, Table}
pub use Rattle.pg_scene.specs.declared.item.Item.{Item}
pub use Rattle.pg_captions.specs.declared.look.Look.{Look}
pub use Rattle.pg_scene.specs.declared.scene.Scene.{Scene}
pub use Rattle.std.specs.List.{flat_map, range_with_len}
