-- What the proofs of this crate name of std and of the crates below.
pub use Rattle.pg_layout.specs.Prelude.{All, AllByRecursion, Bytes, abs_diff, go_on, least}
pub use Rattle.pg_layout.specs.Prelude.{list_any, unless}
unfoldable pub use Rattle.pg_layout.specs.Prelude.{lines, reading, words}
pub use Rattle.pg_text.proofs.Reading.{ends, is_over, lines_few, reads_on}
pub use Rattle.std.proofs.lemmas.Bool.{and_cases, cases_eq, eqb-true, leb-false, ltb-false}
pub use Rattle.std.proofs.lemmas.Bool.{or_parts}
pub use Rattle.std.proofs.lemmas.List.{get_or_append_left, get_or_default, get_or_push}
pub use Rattle.std.proofs.lemmas.List.{length_push}
