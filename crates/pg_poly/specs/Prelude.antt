-- What the definitions of this crate name of std and of the crates below.
pub use Rattle.pg_base.specs.declared.grid.Grid.{Grid}
pub use Rattle.pg_text.specs.Text.{Bytes, parts}
pub use Rattle.std.specs.Cmp.Lexicographic.{same_text, slice_cmp, texts_ties}
pub use Rattle.std.specs.List.{All, AllPairs, AllZip, Contains, count_by, dedup, list_all, list_any}
pub use Rattle.std.specs.List.{position, range_with_len, remove}
pub use Rattle.std.specs.List.Sorted.{IsPermutation, IsSortedBy, IsStrictlyIncreasing}
pub use Rattle.std.specs.List.Sorted.{IsStrictlySortedBy}
pub use Rattle.std.specs.Ordering.{is_lt, nat_cmp, ordering_then}
