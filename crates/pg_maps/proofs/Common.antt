-- What the proofs of this crate name of std and of the crates below.
pub use Rattle.pg_maps.specs.Prelude.{All, AllPairs, Any, AreBelow, AreOpenPairs, AreWithin}
pub use Rattle.pg_maps.specs.Prelude.{AvoiderHolds, Contains, Field, Filling, FinSet, Forces}
pub use Rattle.pg_maps.specs.Prelude.{Forcing, Game, Goal, Grid, HoldLines, HoldsPair}
pub use Rattle.pg_maps.specs.Prelude.{IsAntisymmetric, IsAttack, IsBinarySearchResult, IsInGame}
pub use Rattle.pg_maps.specs.Prelude.{IsLineOf, IsNoWorse, IsPartitionPoint, IsPermutation}
pub use Rattle.pg_maps.specs.Prelude.{IsPosition, IsSafe, IsSearchInRange, IsSorted}
pub use Rattle.pg_maps.specs.Prelude.{IsStrictlyIncreasing, IsThreatLine, LeadsToLine, Lines, Pair}
pub use Rattle.pg_maps.specs.Prelude.{PairsHold, Position, PotentialHolds, SharesNone, Side, Vec, X}
pub use Rattle.pg_maps.specs.Prelude.{Y, after, all_touched, avoider_ends, avoider_total}
pub use Rattle.pg_maps.specs.Prelude.{breaker_of, can_join, claims_in_turn, contains}
pub use Rattle.pg_maps.specs.Prelude.{contains-empty, contains-from_list_nat, count_by, differ}
pub use Rattle.pg_maps.specs.Prelude.{field_joins, field_points, filter, from_list, full_weight}
pub use Rattle.pg_maps.specs.Prelude.{greatest, greatest_length, greatest_weight, has_filled}
pub use Rattle.pg_maps.specs.Prelude.{has_point, has_threat, in_insert, insert, is_filled, is_free}
pub use Rattle.pg_maps.specs.Prelude.{is_full, is_near, is_on, is_open, is_over_by, is_paired}
pub use Rattle.pg_maps.specs.Prelude.{is_same_side, is_touched, limit, lines_of, list_all, list_any}
pub use Rattle.pg_maps.specs.Prelude.{members, nat_cmp, nat_cmp-IsAntisymmetric, nat_list_cmp_total}
pub use Rattle.pg_maps.specs.Prelude.{ordering_reverse, other, outcome_by, point_count, points_of}
pub use Rattle.pg_maps.specs.Prelude.{pointwise, range_with_len, reaches, same_points, same_text}
pub use Rattle.pg_maps.specs.Prelude.{short_joins, slice_cmp, slice_cmp-IsAntisymmetric, sum_by}
pub use Rattle.pg_maps.specs.Prelude.{threatens, times_counted, unpaired, unpaired_due, value}
pub use Rattle.pg_maps.specs.Prelude.{weight, x_after, x_takes_last, y_after}
unfoldable pub use Rattle.pg_maps.specs.Prelude.{free_points, is_over, line_weight, outcome}
unfoldable pub use Rattle.pg_maps.specs.Prelude.{point_weight, points_below, total_weight}
pub use Rattle.pg_game.proofs.Greatest.{free-member, greatest-ge, greatest-le, member-free}
pub use Rattle.pg_game.proofs.Greatest.{member-within}
pub use Rattle.pg_game.proofs.Limits.{lines-fit, point_count-le}
pub use Rattle.pg_game.proofs.Members.{All-from_members, Contains-head, Contains-tail}
pub use Rattle.pg_game.proofs.Members.{list_any-none, list_any-one, member-from_any}
pub use Rattle.std.proofs.lemmas.Bool.{and_from, and_parts, both_ways, cases_Bool, cases_eq}
pub use Rattle.std.proofs.lemmas.Bool.{cases_lt, cond-false, cond-true, false≢true, le-ltb, lt-ltb}
pub use Rattle.std.proofs.lemmas.Bool.{or_cases, or_left, or_right}
pub use Rattle.std.proofs.lemmas.Cmp.{tied_itself}
pub use Rattle.std.proofs.lemmas.List.{get_or_read, take_all}
pub use Rattle.std.proofs.lemmas.List.Elements.{All-append, All-cons, All-contains, All-head}
pub use Rattle.std.proofs.lemmas.List.Elements.{All-tail, All-weaker, Contains-append_cases}
pub use Rattle.std.proofs.lemmas.List.Elements.{Contains-append_left, Contains-append_right}
pub use Rattle.std.proofs.lemmas.List.Elements.{Contains-get_or, filter_agree}
pub use Rattle.std.proofs.lemmas.List.Folds.{Any-from_list_any, list_any_none}
pub use Rattle.std.proofs.lemmas.List.FromFn.{get_or-map-range_with_len, get_or-range_with_len}
pub use Rattle.std.proofs.lemmas.List.FromFn.{length-map-range_with_len, length-range_with_len}
pub use Rattle.std.proofs.lemmas.List.Kept.{AllPairs-cons, AllPairs-filter}
pub use Rattle.std.proofs.lemmas.List.Kept.{AllPairs-from_increasing}
pub use Rattle.std.proofs.lemmas.List.Sorted.{All-permutation, Contains-permutation}
pub use Rattle.std.proofs.lemmas.List.Sorted.{IsPermutation-cons, IsPermutation-map}
pub use Rattle.std.proofs.lemmas.List.Sorted.{IsPermutation-middle, IsPermutation-refl}
pub use Rattle.std.proofs.lemmas.List.Sorted.{IsPermutation-sym, IsPermutation-trans}
pub use Rattle.std.proofs.lemmas.List.Sorted.{length_permutation, list_any-IsPermutation, ranks_by}
pub use Rattle.std.proofs.lemmas.List.Sorted.{searchable_from_sorted, sorted_far}
pub use Rattle.std.proofs.lemmas.List.Sorted.{sum_by-IsPermutation}
pub use Rattle.std.proofs.lemmas.List.Sums.{length-filter, sum_by-cons}
