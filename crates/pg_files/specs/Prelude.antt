-- What the definitions of this crate name of std and of the crates below.
pub use Rattle.pg_base.specs.Kind.{kind_of, kind_word}
pub use Rattle.pg_base.specs.Points.{members}
pub use Rattle.pg_base.specs.Side.{side_of, side_word}
pub use Rattle.pg_base.specs.declared.grid.Grid.{Grid}
pub use Rattle.pg_base.specs.declared.kind.Kind.{Kind}
pub use Rattle.pg_base.specs.declared.limits.TheConstants.{MAX_EDGES, MAX_MEMBERS}
pub use Rattle.pg_base.specs.declared.side.Side.{Side}
pub use Rattle.pg_game.specs.Field.{field_points}
pub use Rattle.pg_game.specs.Fit.{AreBelow, AreLinesOf, IsBoard, IsFit, IsLineOf, ShareNone}
pub use Rattle.pg_game.specs.Fit.{greatest_bias, is_switching, longest}
pub use Rattle.pg_game.specs.declared.bounds.TheConstants.{MAX_BIAS, MAX_LINES}
pub use Rattle.pg_game.specs.declared.bounds.TheConstants.{MAX_POINTS, MAX_SUMMED_POINTS}
pub use Rattle.pg_game.specs.declared.bounds.TheConstants.{MAX_VERTICES}
pub use Rattle.pg_game.specs.declared.field.Field.{Field}
pub use Rattle.pg_game.specs.declared.field.LineField.{LineField}
pub use Rattle.pg_game.specs.declared.game.Game.{Game}
pub use Rattle.pg_graph.specs.declared.graph.Graph.{Graph}
pub use Rattle.pg_poly.specs.Decided.{is_shape}
pub use Rattle.pg_poly.specs.Listed.{placements_of}
pub use Rattle.pg_poly.specs.Shapes.{cells_of, ones}
pub use Rattle.pg_poly.specs.declared.cell.Cell.{Cell}
pub use Rattle.pg_text.specs.Faults.{Becomes, IsLeast, go_on, least, unless}
unfoldable pub use Rattle.pg_text.specs.Faults.{reading}
pub use Rattle.pg_text.specs.Text.{Bytes, Lacks, number, spaced, spelled, then_numbers}
unfoldable pub use Rattle.pg_text.specs.Text.{lines, numbers, words}
pub use Rattle.std.specs.FinSet.{FinSet, contains, contains-empty, contains-from_list_nat, empty}
pub use Rattle.std.specs.FinSet.{from_list, from_list_push, insert}
pub use Rattle.std.specs.Fmt.{decimal}
pub use Rattle.std.specs.List.{All, AllByRecursion, count_by, flat_map, list_all, list_any}
unfoldable pub use Rattle.std.specs.List.{IsDistinct}
pub use Rattle.std.specs.Ordering.{nat_cmp}
pub use Rattle.std.specs.Str.{bytes_eq}
