-- What the proofs of this crate name of std and of the crates below.
pub use Rattle.pg_cert_files.specs.Prelude.{AllByRecursion, BeginCert, Bytes, Cert, Claim, Fault}
pub use Rattle.pg_cert_files.specs.Prelude.{FileError, FinSet, Gives, HYPHEN, Head, IsClaim}
pub use Rattle.pg_cert_files.specs.Prelude.{IsNode, IsOfVersion, IsReadAs, IsWithinLimits, Lacks}
pub use Rattle.pg_cert_files.specs.Prelude.{LineError, MAX_MEMBERS, Node, One, Pair, Part, Shape}
pub use Rattle.pg_cert_files.specs.Prelude.{Side, Two, Vec, Version, X, all_parts, and_then}
pub use Rattle.pg_cert_files.specs.Prelude.{ascending_of, claim_parts, claim_words, contains}
pub use Rattle.pg_cert_files.specs.Prelude.{contains-empty, count_of_two, count_words, decimal}
pub use Rattle.pg_cert_files.specs.Prelude.{each_has_one, each_of, empty, field_words, flat_map}
pub use Rattle.pg_cert_files.specs.Prelude.{following, formed, from_list, goal_word, has_bar}
pub use Rattle.pg_cert_files.specs.Prelude.{has_point, header, insert, is_paired, is_touched}
pub use Rattle.pg_cert_files.specs.Prelude.{join_with_byte, least, list_any, nat_cmp}
pub use Rattle.pg_cert_files.specs.Prelude.{node_count, node_of, node_with, number_of, onto}
pub use Rattle.pg_cert_files.specs.Prelude.{onto_first, parts, side_word, slice_split, spaced}
pub use Rattle.pg_cert_files.specs.Prelude.{turn_of, two_parts, version_of, with_body, with_form}
pub use Rattle.pg_cert_files.specs.Prelude.{without_empty_end, word_pair}
unfoldable pub use Rattle.pg_cert_files.specs.Prelude.{claim_text, count_of, four_parts, head_of}
unfoldable pub use Rattle.pg_cert_files.specs.Prelude.{lines, node_line, node_text, number}
unfoldable pub use Rattle.pg_cert_files.specs.Prelude.{printed_certificate, shape_of}
pub use Rattle.pg_cert_lines.proofs.NodeLimits.{HasBody, IsRead, chosen, done, err_not, node_ok}
pub use Rattle.pg_cert_lines.proofs.NodeLimits.{ok_is, then_ok}
pub use Rattle.pg_text.proofs.Cuts.{first_and_others, four_three, four_two, just_two, some_part}
pub use Rattle.pg_text.proofs.Cuts.{too_many}
pub use Rattle.pg_text.proofs.Decimals.{all_append, number_decimal}
pub use Rattle.pg_text.proofs.FirstLine.{is_feed, one_line, without_empty_end-append}
pub use Rattle.pg_text.proofs.PlainWords.{IsWord, decimal_is_word, lacks_space, quiet_lacks_feed}
pub use Rattle.pg_text.proofs.PlainWords.{spaced_quiet}
pub use Rattle.std.proofs.Math.Seq.{take-append-add, take-append_seam}
pub use Rattle.std.proofs.lemmas.Bool.{cases_Bool, cases_lt, eqb-true, ltb-false, ltb-true, or_left}
pub use Rattle.std.proofs.lemmas.Bool.{or_parts, or_right}
pub use Rattle.std.proofs.lemmas.Bool.Decides.{nat_tests}
pub use Rattle.std.proofs.lemmas.List.{append-nil, length-append, length-drop, length-take-le}
pub use Rattle.std.proofs.lemmas.List.{map-append, map_push, nil_from_length, take-append-drop}
pub use Rattle.std.proofs.lemmas.List.{take-append-le, take-take, take_all}
pub use Rattle.std.proofs.lemmas.List.Elements.{All-from_recursion, recursion_from_All}
pub use Rattle.std.proofs.lemmas.List.Folds.{list_all-append, list_any-append}
pub use Rattle.std.proofs.lemmas.List.Splits.{join_with_byte-slice_split, length-slice_split}
pub use Rattle.std.proofs.lemmas.List.Splits.{slice_split-cons_no, slice_split-cons_yes}
pub use Rattle.std.proofs.lemmas.List.Sums.{fold-append, sum_by-cons, sum_by_push}
pub use Rattle.std.proofs.lemmas.Result.{IfOk-weaker}
