-- What the proofs of this crate name of std and of the crates below.
pub use Rattle.pg_plan.specs.Prelude.{AllByRecursion, Bytes, and_then, behind_spaces, bytes_eq}
pub use Rattle.pg_plan.specs.Prelude.{decimal, each_of, flat_map, go_on, least, lines, list_all}
pub use Rattle.pg_plan.specs.Prelude.{number, parts, spaced, spelled, two_parts, unless}
unfoldable pub use Rattle.pg_plan.specs.Prelude.{reading}
pub use Rattle.pg_text.proofs.Decimals.{all_map, all_of, number_decimal, two_decimals}
pub use Rattle.pg_text.proofs.FirstLine.{lines_feed, no_lines}
pub use Rattle.pg_text.proofs.PlainWords.{IsPlain, IsWord, decimal_is_word, quiet_lacks_feed}
pub use Rattle.pg_text.proofs.PlainWords.{spaced_quiet, words_spaced}
pub use Rattle.pg_text.proofs.Reading.{ends, first_fault, is_least, is_over, lines_few, reads_on}
pub use Rattle.pg_text.proofs.Reading.{unless_err}
pub use Rattle.std.proofs.lemmas.Bool.{and_parts, false≢true, ltb-true}
pub use Rattle.std.proofs.lemmas.Bool.Decides.{nat_tests}
pub use Rattle.std.proofs.lemmas.List.{append-nil, length_push}
