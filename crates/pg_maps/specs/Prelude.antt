-- What the definitions of this crate name of std and of the crates below.
pub use Rattle.pg_base.specs.Points.{AreBelow, AreWithin, members}
unfoldable pub use Rattle.pg_base.specs.Points.{points_below}
pub use Rattle.pg_base.specs.Side.{is_same_side, other}
pub use Rattle.pg_base.specs.WordLemmas.{in_insert, same_points}
pub use Rattle.pg_base.specs.declared.goal.Goal.{Goal}
pub use Rattle.pg_base.specs.declared.grid.Grid.{Grid}
pub use Rattle.pg_base.specs.declared.limits.TheConstants.{MAX_MEMBERS}
pub use Rattle.pg_base.specs.declared.pair.Pair.{Pair}
pub use Rattle.pg_base.specs.declared.side.Side.{Side}
pub use Rattle.pg_base.specs.declared.side.Side.TheVariants.{X, Y}
pub use Rattle.pg_game.specs.Avoider.{AvoiderHolds, avoider_ends, avoider_total, x_takes_last}
pub use Rattle.pg_game.specs.Field.{field_joins, field_points}
pub use Rattle.pg_game.specs.Fit.{IsLineOf}
pub use Rattle.pg_game.specs.Game.{IsPosition, after, all_touched, can_join, has_filled, is_filled}
pub use Rattle.pg_game.specs.Game.{is_full, is_over_by, is_touched, lines_of, outcome_by}
pub use Rattle.pg_game.specs.Game.{point_count, short_joins}
unfoldable pub use Rattle.pg_game.specs.Game.{free_points, is_over, outcome}
pub use Rattle.pg_game.specs.Pairs.{AreOpenPairs, HoldLines, HoldsPair, IsInGame, IsSafe, PairsHold}
pub use Rattle.pg_game.specs.Pairs.{SharesNone, breaker_of, has_point, is_open, is_paired, unpaired}
pub use Rattle.pg_game.specs.Pairs.{unpaired_due}
pub use Rattle.pg_game.specs.Position.{claims_in_turn, is_free, points_of, x_after, y_after}
pub use Rattle.pg_game.specs.Potential.{PotentialHolds, full_weight, greatest, greatest_length}
pub use Rattle.pg_game.specs.Potential.{greatest_weight, is_on, limit, times_counted, weight}
unfoldable pub use Rattle.pg_game.specs.Potential.{line_weight, point_weight, total_weight}
pub use Rattle.pg_game.specs.Threat.{Filling, Forcing, IsAttack, IsThreatLine, LeadsToLine}
pub use Rattle.pg_game.specs.Threat.{has_threat, is_near, threatens}
pub use Rattle.pg_game.specs.Trees.{differ}
pub use Rattle.pg_game.specs.Value.{Forces, reaches, value}
pub use Rattle.pg_game.specs.Weaker.{IsNoWorse}
pub use Rattle.pg_game.specs.declared.field.Field.{Field}
pub use Rattle.pg_game.specs.declared.field.Field.TheVariants.{Lines}
pub use Rattle.pg_game.specs.declared.game.Game.{Game}
pub use Rattle.pg_game.specs.declared.position.Position.{Position}
pub use Rattle.std.specs.Cmp.Lexicographic.{nat_list_cmp_total, pointwise, same_text, slice_cmp}
pub use Rattle.std.specs.FinMap.{IsAntisymmetric, nat_cmp-IsAntisymmetric}
pub use Rattle.std.specs.FinMap.{slice_cmp-IsAntisymmetric}
pub use Rattle.std.specs.FinSet.{FinSet, contains, contains-empty, contains-from_list_nat}
pub use Rattle.std.specs.FinSet.{from_list, insert}
pub use Rattle.std.specs.Global.{Vec}
pub use Rattle.std.specs.List.{All, AllPairs, Any, Contains, count_by, filter, list_all, list_any}
pub use Rattle.std.specs.List.{range_with_len, sum_by}
pub use Rattle.std.specs.List.Sorted.{IsBinarySearchResult, IsPartitionPoint, IsPermutation}
pub use Rattle.std.specs.List.Sorted.{IsSearchInRange, IsSorted, IsStrictlyIncreasing}
pub use Rattle.std.specs.Ordering.{nat_cmp, ordering_reverse}
