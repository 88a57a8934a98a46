-- What the proofs of this crate name of std and of the crates below.
pub use Rattle.pg_words.specs.Prelude.{ArgMatches, Bytes, HasKind, IsAmong, IsNumeral, Kinds}
pub use Rattle.pg_words.specs.Prelude.{ParsesUnsigned, Shape, app_of, app_of_fields, built}
pub use Rattle.pg_words.specs.Prelude.{bytes_eq, check_fault, default_fault, digits_value, entered}
pub use Rattle.pg_words.specs.Prelude.{entered_fault, fault_of, given_default_fault, is_ascii_digit}
pub use Rattle.pg_words.specs.Prelude.{is_simple, is_simple_and_free, list_all, matches_of, on_top}
pub use Rattle.pg_words.specs.Prelude.{or_else, rule_of, settle_fault, starts_with, turn_fault}
pub use Rattle.pg_words.specs.Prelude.{with_rule, without_leading_plus}
unfoldable pub use Rattle.pg_words.specs.Prelude.{defaults_fault, walk_fault}
pub use Rattle.std.proofs.lemmas.Bool.{and_parts, and_right, cases_Bool, not-true}
pub use Rattle.std.proofs.lemmas.List.{append-nil, append_assoc, map-append}
