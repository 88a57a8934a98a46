-- What the proofs of this crate name of std and of the crates below.
pub use Rattle.pg_base.specs.Prelude.{All, AllAdjacentBelow, AllByRecursion, AllPairs, Contains}
pub use Rattle.pg_base.specs.Prelude.{FinSet, IsAllAdjacentAnswer, IsPermutation, IsSorted}
pub use Rattle.pg_base.specs.Prelude.{IsStrictlyIncreasing, bit_at, bit_not, contains}
pub use Rattle.pg_base.specs.Prelude.{contains-difference, contains-empty, contains-from_list_nat}
pub use Rattle.pg_base.specs.Prelude.{contains-union, count_by, difference, empty, from_list}
pub use Rattle.pg_base.specs.Prelude.{from_list_push, insert, is_lt, len, len-empty, len-insert}
pub use Rattle.pg_base.specs.Prelude.{list_all, list_any, nat_cmp, nat_cmp-IsAntisymmetric}
pub use Rattle.pg_base.specs.Prelude.{nat_cmp_total, range_with_len, remove, trailing_zeros, union}
pub use Rattle.pg_base.specs.Prelude.{unsigned_Decides}
pub use Rattle.std.proofs.Math.Nat.{div-div-eq-div-mul, div-le_self}
pub use Rattle.std.proofs.Math.Path.{fun_ext}
pub use Rattle.std.proofs.lemmas.Bool.{MatchBool-at_false, MatchBool-at_true, and_from, and_parts}
pub use Rattle.std.proofs.lemmas.Bool.{and_right, both_ways, cases_Bool, cases_eq, cases_lt, eq-eqb}
pub use Rattle.std.proofs.lemmas.Bool.{eqb-true, false_from_ne_true, false≢true, le-ltb, lt-ltb}
pub use Rattle.std.proofs.lemmas.Bool.{ltb-true, ne_eqb, or_cases, or_left, or_right}
pub use Rattle.std.proofs.lemmas.Bool.Decides.{Decides-like, nat_tests, same_from_decides}
pub use Rattle.std.proofs.lemmas.List.{append-nil, get_or_past, length-set, take_all, take_more}
pub use Rattle.std.proofs.lemmas.List.FromFn.{get_or-range_with_len, length-range_with_len}
pub use Rattle.std.proofs.lemmas.List.Kept.{AllPairs-from_increasing, IsStrictlyIncreasing-filter}
pub use Rattle.std.proofs.lemmas.List.Sorted.{answers_always, sum_by-IsPermutation}
pub use Rattle.std.proofs.lemmas.List.Sums.{count_by-le-length, get_or-le-sum_by, length-filter}
pub use Rattle.std.proofs.lemmas.List.Sums.{sum_by-cons}
pub use Rattle.std.proofs.lemmas.Nat.{and_le_l, ones-le, or_lt, pow-add}
pub use Rattle.std.proofs.lemmas.Nat.Bits.{bit_at-lt, bit_at-trailing_zeros, bit_at-zero}
pub use Rattle.std.proofs.lemmas.Nat.Bits.{bit_at_above, bit_at_and, bit_at_not, bit_at_or}
pub use Rattle.std.proofs.lemmas.Nat.Bits.{same_from_bits_below}
