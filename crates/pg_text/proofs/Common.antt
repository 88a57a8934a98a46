-- What the proofs of this crate name of std and of the crates below.
pub use Rattle.pg_text.specs.Prelude.{All, AllByRecursion, AllDigits, IsAllAdjacentAnswer}
pub use Rattle.pg_text.specs.Prelude.{LINE_FEED, SPACE, after_first, decimal}
pub use Rattle.pg_text.specs.Prelude.{digit_value, digits_value, is_ascii_digit, list_all, position}
pub use Rattle.pg_text.specs.Prelude.{position_or_len, slice_split}
pub use Rattle.std.proofs.lemmas.Bool.{and_parts, cases_Bool, eqb-true}
pub use Rattle.std.proofs.lemmas.Bool.Decides.{nat_tests}
pub use Rattle.std.proofs.lemmas.List.{append-nil, length-append, length-drop}
pub use Rattle.std.proofs.lemmas.List.{length-take-le, take-append-drop, take_all}
pub use Rattle.std.proofs.lemmas.List.Elements.{All-from_recursion}
pub use Rattle.std.proofs.lemmas.List.Splits.{length-slice_split, slice_split_at}
pub use Rattle.std.proofs.lemmas.List.Splits.{slice_split_none}
pub use Rattle.std.proofs.lemmas.List.Sums.{count_by-le-length, fails_before_first}
pub use Rattle.std.proofs.lemmas.List.Sums.{position_or_len_is}
pub use Rattle.std.proofs.lemmas.Str.Parse.{digit_at, digit_from_value, digits_value-take-le}
