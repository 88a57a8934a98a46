-- What the proofs of this crate name of std and of the crates below.
pub use Rattle.pg_board.specs.Prelude.{All, Cells, Contains, Extends, FinSet, Game, IsPosition}
pub use Rattle.pg_board.specs.Prelude.{IsStrictlyIncreasing, Position, ShareNone, Side, Switching}
pub use Rattle.pg_board.specs.Prelude.{X, Y, after, after_with, all_touched, avoider_total}
pub use Rattle.pg_board.specs.Prelude.{avoider_weight, back_to, can_join, claims_in_turn, contains}
pub use Rattle.pg_board.specs.Prelude.{contains-empty, count_by, empty, filter, find, greatest}
pub use Rattle.pg_board.specs.Prelude.{greatest_length, greatest_weight, has_filled, in_insert}
pub use Rattle.pg_board.specs.Prelude.{insert, is_empty, is_filled, is_free, is_full, is_near}
pub use Rattle.pg_board.specs.Prelude.{is_on, is_over_by, is_same_side, is_touched, left_after}
pub use Rattle.pg_board.specs.Prelude.{lines_of, list_all, list_any, nat_cmp, one_if, other}
pub use Rattle.pg_board.specs.Prelude.{outcome_by, point_count, points_of, present, range_with_len}
pub use Rattle.pg_board.specs.Prelude.{same_points, short_joins, sum_by, total, turn_after}
pub use Rattle.pg_board.specs.Prelude.{vec_capacity, vec_len, weight, without, x_after}
pub use Rattle.pg_board.specs.Prelude.{x_takes_last, y_after}
unfoldable pub use Rattle.pg_board.specs.Prelude.{avoider_holds, free_points, full_weight, is_over}
unfoldable pub use Rattle.pg_board.specs.Prelude.{line_weight, outcome, point_weight}
unfoldable pub use Rattle.pg_board.specs.Prelude.{potential_holds, settled, total_weight}
unfoldable pub use Rattle.pg_board.specs.Prelude.{with_cell, with_set}
pub use Rattle.pg_game.proofs.LineSums.{full_weight-is, length-le-greatest, points-le}
pub use Rattle.pg_game.proofs.Moves.{free-of, some_bias}
pub use Rattle.pg_game.proofs.WeightBounds.{bias-few, bias-le, few_lines, few_points-lines}
pub use Rattle.pg_game.proofs.WeightBounds.{greatest_length-few, line_weight-le}
pub use Rattle.pg_undo.proofs.Extending.{extends-back, extends-both, extends-none, extends-set}
pub use Rattle.pg_undo.proofs.Finding.{first_of_all}
pub use Rattle.pg_undo.proofs.Undoing.{back_to-with_cell, with_cell-twice}
pub use Rattle.std.proofs.Math.Nat.{add-mul, pow-le-pow_left, pow-le-pow_right, pow-suc, pow-zero}
pub use Rattle.std.proofs.lemmas.Bool.{and_cases, and_from, and_left, and_parts, and_right}
pub use Rattle.std.proofs.lemmas.Bool.{cases_Bool, cases_eq, cases_lt, eq-eqb, eqb-true, false≢true}
pub use Rattle.std.proofs.lemmas.Bool.{le-ltb, lt-ltb, ltb-false, ltb-true, ne_eqb, not-false}
pub use Rattle.std.proofs.lemmas.Bool.{not-true, or_cases, or_left, or_parts, or_right}
pub use Rattle.std.proofs.lemmas.List.{append-nil, drop-append-le, drop_at, drop_more}
pub use Rattle.std.proofs.lemmas.List.{get_or-replicate, get_or-set_other, get_or-set_same}
pub use Rattle.std.proofs.lemmas.List.{get_or-take, get_or_append_left, get_or_default, get_or_push}
pub use Rattle.std.proofs.lemmas.List.{length-drop, length-replicate, length-reverse, length-set}
pub use Rattle.std.proofs.lemmas.List.{length-take, length-take-le, length_push, reverse-append}
pub use Rattle.std.proofs.lemmas.List.{same_lists, take-append-drop, take-append-le, take-take}
pub use Rattle.std.proofs.lemmas.List.{take_all, take_at, take_more}
pub use Rattle.std.proofs.lemmas.List.Elements.{All-contains, All-filter, Contains-append_right}
pub use Rattle.std.proofs.lemmas.List.Elements.{Contains-get_or, filter-append, filter_passes}
pub use Rattle.std.proofs.lemmas.List.Folds.{list_any-append, list_any_more, list_any_none}
pub use Rattle.std.proofs.lemmas.List.FromFn.{get_or-map-range_with_len, get_or-range_with_len}
pub use Rattle.std.proofs.lemmas.List.FromFn.{length-map-range_with_len, length-range_with_len}
pub use Rattle.std.proofs.lemmas.List.FromFn.{map-range_with_len_more}
pub use Rattle.std.proofs.lemmas.List.Sums.{count_by-le-length, count_by_more_no, count_by_more_yes}
pub use Rattle.std.proofs.lemmas.List.Sums.{length-filter, sum_by-cons, sum_by-le, sum_by_more}
pub use Rattle.std.proofs.lemmas.List.Sums.{sum_by_more_le}
