-- What the proofs of this crate name of std and of the crates below.
pub use Rattle.pg_family_files.specs.Prelude.{All, AllByRecursion, AreBelow, AreSpanParts}
pub use Rattle.pg_family_files.specs.Prelude.{AreVectorParts, Bytes, Fault, FileError, FinSet}
pub use Rattle.pg_family_files.specs.Prelude.{Gives, Graph, IsLeast, ShareNone, Side, SpanBody}
pub use Rattle.pg_family_files.specs.Prelude.{SpanCert, SpanClaim, SpanGame, VecGame, after_slash}
pub use Rattle.pg_family_files.specs.Prelude.{and_then, ascend_from, before_slash, begins_comment}
pub use Rattle.pg_family_files.specs.Prelude.{behind_spaces, bytes_eq, contains, contains-empty}
pub use Rattle.pg_family_files.specs.Prelude.{contains-from_list_nat, decimal, each_of, edge_words}
pub use Rattle.pg_family_files.specs.Prelude.{empty, first, first_number, flat_map, following}
pub use Rattle.pg_family_files.specs.Prelude.{from_list, go_on, has_one_slash, is_printable}
pub use Rattle.pg_family_files.specs.Prelude.{is_slash, last_lines, least, list_all, list_any}
pub use Rattle.pg_family_files.specs.Prelude.{marked, members, nat_cmp, number, number_of}
pub use Rattle.pg_family_files.specs.Prelude.{number_words, numbers, numbers_of, onto, parts}
pub use Rattle.pg_family_files.specs.Prelude.{repeats, rest, second_number, set_of, set_words}
pub use Rattle.pg_family_files.specs.Prelude.{side_of, side_word, spaced, spelled}
unfoldable pub use Rattle.pg_family_files.specs.Prelude.{lines, reading, words}
pub use Rattle.pg_base.proofs.MemberLemmas.{from_list-points_below, points_below-ascend}
pub use Rattle.pg_base.proofs.MemberLemmas.{points_below-each, points_below-length}
pub use Rattle.pg_base.proofs.MemberLemmas.{points_below-small}
pub use Rattle.pg_files.proofs.PrintLemmas.{each_text, joined}
pub use Rattle.pg_files.proofs.RoundTrip.{AreSmall, inside, one_small, side_is_word, smaller}
pub use Rattle.pg_files.proofs.RoundTrip.{two_small}
pub use Rattle.pg_files.proofs.SetLaws.{below-members, in_set_of, members-apart, repeats_apart}
pub use Rattle.pg_files.proofs.SetLaws.{repeats_none}
pub use Rattle.pg_files.proofs.Words.{decimals_are_words, is_word, lines_spelled, numbers_decimals}
pub use Rattle.pg_files.proofs.Words.{spaced_printable, words_again}
pub use Rattle.pg_text.proofs.Decimals.{IsDigit, all_append, all_map, decimal_digits, decimal_not}
pub use Rattle.pg_text.proofs.Decimals.{number_decimal}
pub use Rattle.pg_text.proofs.Reading.{ends, first_fault, is_least, is_over, lines_few, reads_on}
pub use Rattle.pg_text.proofs.Reading.{unless_err}
pub use Rattle.std.proofs.Math.Nat.{pow-le-pow_right, pow-succ'}
pub use Rattle.std.proofs.lemmas.Bool.{and_parts, and_right, cases_Bool, cases_lt, eq-eqb, eqb-true}
pub use Rattle.std.proofs.lemmas.Bool.{false≢true, lt-ltb, ltb-false, ltb-true, or_cases, or_parts}
pub use Rattle.std.proofs.lemmas.Bool.Decides.{nat_tests}
pub use Rattle.std.proofs.lemmas.List.{append-nil, length-append, map-append}
pub use Rattle.std.proofs.lemmas.List.Concat.{flat_map-append}
pub use Rattle.std.proofs.lemmas.List.Elements.{All-from_recursion, All-push, All-tail}
pub use Rattle.std.proofs.lemmas.List.Elements.{recursion_from_All}
