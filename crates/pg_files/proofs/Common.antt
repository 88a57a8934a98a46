-- What the proofs of this crate name of std and of the crates below.
pub use Rattle.pg_files.specs.Prelude.{All, AllByRecursion, AreBelow, AreLinesOf, Bytes, Cell}
pub use Rattle.pg_files.specs.Prelude.{Field, FinSet, Game, Graph, Grid, IsBoard, IsFit, IsLeast}
pub use Rattle.pg_files.specs.Prelude.{IsLineOf, Kind, Lacks, LineField, MAX_MEMBERS, ShareNone}
pub use Rattle.pg_files.specs.Prelude.{Side, bytes_eq, cells_of, contains, contains-empty}
pub use Rattle.pg_files.specs.Prelude.{contains-from_list_nat, count_by, decimal, empty}
pub use Rattle.pg_files.specs.Prelude.{field_points, flat_map, from_list_push, go_on, greatest_bias}
pub use Rattle.pg_files.specs.Prelude.{insert, is_shape, is_switching, kind_of, kind_word, least}
pub use Rattle.pg_files.specs.Prelude.{list_all, list_any, longest, members, nat_cmp, number, ones}
pub use Rattle.pg_files.specs.Prelude.{placements_of, side_of, side_word, spaced, spelled}
pub use Rattle.pg_files.specs.Prelude.{then_numbers, unless}
unfoldable pub use Rattle.pg_files.specs.Prelude.{IsDistinct, lines, numbers, reading, words}
pub use Rattle.pg_base.proofs.MemberLemmas.{from_list-points_below, has-points_below}
pub use Rattle.pg_base.proofs.MemberLemmas.{points_below-ascend}
pub use Rattle.pg_poly.proofs.Listing.{line_of_cells}
pub use Rattle.pg_text.proofs.Reading.{ends, is_over, lines_few, reads_on}
pub use Rattle.std.proofs.lemmas.Bool.{and_parts, and_right, cases_Bool, cases_eq, cases_lt, eq-eqb}
pub use Rattle.std.proofs.lemmas.Bool.{eqb-false, eqb-true, lt-ltb, ltb-false, ltb-true, ne_eqb}
pub use Rattle.std.proofs.lemmas.Bool.{or_cases, or_parts, or_right}
pub use Rattle.std.proofs.lemmas.Bool.Decides.{nat_tests}
pub use Rattle.std.proofs.lemmas.Fmt.{decimal_is_IsNumeral, length-decimal-le}
pub use Rattle.std.proofs.lemmas.List.{append-nil, length-append, map-append, take_more}
pub use Rattle.std.proofs.lemmas.List.Concat.{flat_map-append}
pub use Rattle.std.proofs.lemmas.List.Elements.{All-cons, All-push, All-tail}
pub use Rattle.std.proofs.lemmas.List.Sums.{AllPass-from_list_all, sum_by-append, sum_by-cons}
pub use Rattle.std.proofs.lemmas.List.Sums.{sum_by_push}
