-- What the definitions of this crate name of std and of the crates below.
pub use Rattle.std.specs.Cmp.{IsEquivalence, IsPartialEquivalence, decided, nat_cmp_total}
pub use Rattle.std.specs.Cmp.{partial_equiv_from_equiv, unsigned_Decides, unsigned_tied}
pub use Rattle.std.specs.FinSet.{FinSet, contains, contains-difference, contains-empty}
pub use Rattle.std.specs.FinSet.{contains-from_list_nat, contains-insert, contains-remove}
pub use Rattle.std.specs.FinSet.{contains-union, difference, empty, from_list, from_list_push}
pub use Rattle.std.specs.FinSet.{insert, len, len-empty, len-insert, nat_cmp-IsAntisymmetric}
pub use Rattle.std.specs.FinSet.{remove, same_set, union}
pub use Rattle.std.specs.Int.{bit_at, bit_not, trailing_zeros}
pub use Rattle.std.specs.List.{All, AllAdjacentBelow, AllByRecursion, AllPairs, Contains}
pub use Rattle.std.specs.List.{IsAllAdjacentAnswer, count_by, flat_map, list_all, list_any}
pub use Rattle.std.specs.List.{range_with_len}
pub use Rattle.std.specs.List.Sorted.{IsPermutation, IsSorted, IsStrictlyIncreasing}
pub use Rattle.std.specs.Ordering.{is_lt, nat_cmp}
