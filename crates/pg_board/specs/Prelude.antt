-- What the definitions of this crate name of std and of the crates below.
pub use Rattle.pg_base.specs.Points.{ShareNone}
pub use Rattle.pg_base.specs.Sets.{one_if}
pub use Rattle.pg_base.specs.Side.{is_same_side, other}
pub use Rattle.pg_base.specs.WordLemmas.{in_insert, same_points}
pub use Rattle.pg_base.specs.declared.kind.Kind.TheVariants.{Switching}
pub use Rattle.pg_base.specs.declared.side.Side.{Side}
pub use Rattle.pg_base.specs.declared.side.Side.TheVariants.{X, Y}
pub use Rattle.pg_game.specs.Avoider.{avoider_total, avoider_weight, x_takes_last}
unfoldable pub use Rattle.pg_game.specs.Avoider.{avoider_holds}
pub use Rattle.pg_game.specs.Game.{IsPosition, after, all_touched, can_join, has_filled, is_empty}
pub use Rattle.pg_game.specs.Game.{is_filled, is_full, is_over_by, is_touched, lines_of, outcome_by}
pub use Rattle.pg_game.specs.Game.{point_count, short_joins}
unfoldable pub use Rattle.pg_game.specs.Game.{free_points, is_over, outcome}
pub use Rattle.pg_game.specs.Position.{after_with, claims_in_turn, is_free, left_after, points_of}
pub use Rattle.pg_game.specs.Position.{turn_after, x_after, y_after}
pub use Rattle.pg_game.specs.Potential.{greatest, greatest_length, greatest_weight, is_on, total}
pub use Rattle.pg_game.specs.Potential.{weight}
unfoldable pub use Rattle.pg_game.specs.Potential.{full_weight, line_weight, point_weight}
unfoldable pub use Rattle.pg_game.specs.Potential.{potential_holds, total_weight}
pub use Rattle.pg_game.specs.Threat.{is_near}
pub use Rattle.pg_game.specs.declared.bounds.TheConstants.{MAX_LINES, MAX_LINE_POINTS, MAX_POINTS}
pub use Rattle.pg_game.specs.declared.game.Game.{Game}
pub use Rattle.pg_game.specs.declared.position.Position.{Position}
pub use Rattle.pg_undo.specs.Extends.{Extends}
pub use Rattle.pg_undo.specs.Ring.{present, without}
pub use Rattle.pg_undo.specs.Trail.{Cells, back_to}
unfoldable pub use Rattle.pg_undo.specs.Trail.{settled, with_cell, with_set}
pub use Rattle.std.specs.FinSet.{FinSet, contains, contains-empty, empty, insert}
pub use Rattle.std.specs.List.{All, Contains, count_by, filter, find, list_all, list_any}
pub use Rattle.std.specs.List.{range_with_len, slice_get, sum_by}
pub use Rattle.std.specs.List.Sorted.{IsStrictlyIncreasing}
pub use Rattle.std.specs.Ordering.{nat_cmp}
pub use Rattle.std.specs.Vec.{vec_capacity, vec_len}
