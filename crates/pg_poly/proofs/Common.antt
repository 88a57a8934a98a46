-- What the proofs of this crate name of std and of the crates below.
pub use Rattle.pg_poly.specs.Prelude.{All, AllPairs, AllZip, Bytes, Contains, Grid, IsPermutation}
pub use Rattle.pg_poly.specs.Prelude.{IsSortedBy, IsStrictlyIncreasing, IsStrictlySortedBy, dedup}
pub use Rattle.pg_poly.specs.Prelude.{is_lt, list_all, list_any, nat_cmp, ordering_then, parts}
pub use Rattle.pg_poly.specs.Prelude.{range_with_len, remove, same_text, slice_cmp, texts_ties}
pub use Rattle.std.proofs.lemmas.Bool.{and_parts, cases_Bool, cases_eq, or_cases}
pub use Rattle.std.proofs.lemmas.Cmp.{by_ranked, nat_list_cmp_total, nat_list_eq_equiv, ranked}
pub use Rattle.std.proofs.lemmas.List.Elements.{All-cons, All-nil, All-tail, Contains-append_cases}
pub use Rattle.std.proofs.lemmas.List.Elements.{Contains-append_left, Contains-append_right}
pub use Rattle.std.proofs.lemmas.List.Elements.{Contains-get_or, Contains-push, Contains-push_cases}
pub use Rattle.std.proofs.lemmas.List.FromFn.{get_or-range_with_len, length-range_with_len}
pub use Rattle.std.proofs.lemmas.List.Kept.{AllPairs-cons, AllPairs-filter}
pub use Rattle.std.proofs.lemmas.List.Kept.{AllPairs-from_increasing, Contains-dedup}
pub use Rattle.std.proofs.lemmas.List.Kept.{Contains-from_dedup, IsStrictlySortedBy-dedup}
pub use Rattle.std.proofs.lemmas.List.Sorted.{Contains-permutation, IsPermutation-cons}
pub use Rattle.std.proofs.lemmas.List.Sorted.{IsPermutation-refl, IsPermutation-remove}
pub use Rattle.std.proofs.lemmas.List.Sorted.{IsPermutation-sym, IsPermutation-trans}
pub use Rattle.std.proofs.lemmas.List.Sorted.{length_permutation, ranks_by}
