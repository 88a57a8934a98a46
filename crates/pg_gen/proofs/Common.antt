-- What the proofs of this crate name of std and of the crates below.
pub use Rattle.pg_gen.specs.Prelude.{All, AllPairs, AllZip, AreLinesOf, FinSet, Graph, IsBoard}
pub use Rattle.pg_gen.specs.Prelude.{IsFit, IsLineOf, IsLineOfRow, IsPermutation}
pub use Rattle.pg_gen.specs.Prelude.{IsStrictlyIncreasing, LineField, Lines, MakerBreaker}
pub use Rattle.pg_gen.specs.Prelude.{StandsTwice, Switching, contains-empty, count_by, empty}
pub use Rattle.pg_gen.specs.Prelude.{flat_map, range_with_len, swap}
pub use Rattle.pg_base.proofs.LineLemmas.{count-ascending, not_twice}
pub use Rattle.std.proofs.Math.Nat.{mul-le-mul_right, mul-suc, suc-mul}
pub use Rattle.std.proofs.lemmas.Bool.{cases_Bool, cases_eq, cases_lt}
pub use Rattle.std.proofs.lemmas.Bool.Decides.{nat_tests}
pub use Rattle.std.proofs.lemmas.List.{append-nil, append_assoc, length-append, length-take-le}
pub use Rattle.std.proofs.lemmas.List.Elements.{All-append, All-map, All-nil, All-push, All-take}
pub use Rattle.std.proofs.lemmas.List.FromFn.{get_or-map-range_with_len, get_or-range_with_len}
pub use Rattle.std.proofs.lemmas.List.FromFn.{length-map-range_with_len, length-range_with_len}
pub use Rattle.std.proofs.lemmas.List.FromFn.{map-range_with_len_more}
pub use Rattle.std.proofs.lemmas.List.Sorted.{All-permutation, IsPermutation-refl}
pub use Rattle.std.proofs.lemmas.List.Sorted.{length_permutation, sum_by-IsPermutation}
pub use Rattle.std.proofs.lemmas.List.Sums.{fold-append, sum_by-cons, sum_by-le, sum_by-take-le}
pub use Rattle.std.proofs.lemmas.Nat.{mul-le}
