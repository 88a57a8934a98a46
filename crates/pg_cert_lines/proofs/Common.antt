-- What the proofs of this crate name of std and of the crates below.
pub use Rattle.pg_cert_lines.specs.Prelude.{All, AllByRecursion, ArePoints, Body, Bor, Bytes}
pub use Rattle.pg_cert_lines.specs.Prelude.{FinSet, Four, Gives, IsBody, IsNode, IsPair, IsReply}
pub use Rattle.pg_cert_lines.specs.Prelude.{IsTurn, Lacks, LineError, MAX_DIGITS, Node, One, Pair}
pub use Rattle.pg_cert_lines.specs.Prelude.{Part, Reply, Side, Two, Vec, Version, and_then}
pub use Rattle.pg_cert_lines.specs.Prelude.{ascend_from, behind_spaces, body_name, body_text}
pub use Rattle.pg_cert_lines.specs.Prelude.{body_words, bytes_eq, contains, contains-empty}
pub use Rattle.pg_cert_lines.specs.Prelude.{contains-from_list_nat, decimal, digits_value, each_of}
pub use Rattle.pg_cert_lines.specs.Prelude.{edge_words, empty, following, from_list, from_list_push}
pub use Rattle.pg_cert_lines.specs.Prelude.{has_body, insert, is_ascii_digit, is_touched, list_all}
pub use Rattle.pg_cert_lines.specs.Prelude.{list_any, nat_cmp, nat_cmp-IsAntisymmetric, onto}
pub use Rattle.pg_cert_lines.specs.Prelude.{pair_of, pair_word, parts, reply_word, set_words}
pub use Rattle.pg_cert_lines.specs.Prelude.{side_word, spaced, two_parts, words_of}
unfoldable pub use Rattle.pg_cert_lines.specs.Prelude.{four_parts, number, turn_word}
pub use Rattle.pg_text.proofs.Cuts.{first_and_others, four_none, four_three, just_two, only_word}
pub use Rattle.pg_text.proofs.Decimals.{all_append, all_map, all_of, decimal_not, number_decimal}
pub use Rattle.pg_text.proofs.Decimals.{two_decimals}
pub use Rattle.pg_text.proofs.PlainWords.{IsPlain, IsQuiet, IsWord, decimal_is_word, quiet_text}
pub use Rattle.pg_text.proofs.PlainWords.{spaced_quiet, word_quiet, words_spaced}
pub use Rattle.std.proofs.Math.Seq.{drop-cons}
pub use Rattle.std.proofs.lemmas.Bool.{and_parts, cases_Bool, eqb-true, false≢true, ltb-true}
pub use Rattle.std.proofs.lemmas.Bool.{or_cases, or_parts, or_right}
pub use Rattle.std.proofs.lemmas.Bool.Decides.{nat_tests}
pub use Rattle.std.proofs.lemmas.List.{append-nil, length-append, length-drop, length-map}
pub use Rattle.std.proofs.lemmas.List.{length-take-le, take-append-drop, take_all}
pub use Rattle.std.proofs.lemmas.List.Elements.{All-from_recursion, recursion_from_All}
pub use Rattle.std.proofs.lemmas.List.Folds.{list_all_more}
