-- What the definitions of this crate name of std and of the crates below.
pub use Rattle.clap.specs.Faults.{check_fault, default_fault, entered_fault, fault_of}
pub use Rattle.clap.specs.Faults.{given_default_fault, is_simple_and_free, settle_fault, turn_fault}
unfoldable pub use Rattle.clap.specs.Faults.{defaults_fault, walk_fault}
pub use Rattle.clap.specs.Kinds.{HasKind, IsAmong, Kinds, or_else}
pub use Rattle.clap.specs.Simple.{Shape, app_of_fields, built, entered, is_simple, matches_of}
pub use Rattle.clap.specs.Simple.{on_top}
pub use Rattle.clap.specs.Words.{App, Rule, app_of, first_value, found_of, matched_of, new_app}
pub use Rattle.clap.specs.Words.{new_rule, raw_values, rule_of, with_rule}
pub use Rattle.clap.specs.declared.parser.matches.ArgMatches.{ArgMatches}
pub use Rattle.pg_gen.specs.declared.limits.TheConstants.{MAX_SEED}
pub use Rattle.pg_text.specs.Text.{Bytes, number}
pub use Rattle.std.specs.Char.{is_ascii_digit}
pub use Rattle.std.specs.List.{list_all, starts_with}
pub use Rattle.std.specs.Str.{bytes_eq}
pub use Rattle.std.specs.Str.Parse.{IsNumeral, ParsesUnsigned, digits_value, without_leading_plus}
