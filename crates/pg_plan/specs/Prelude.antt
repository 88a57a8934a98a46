-- What the definitions of this crate name of std and of the crates below.
pub use Rattle.pg_base.specs.declared.limits.TheConstants.{MAX_MEMBERS}
pub use Rattle.pg_base.specs.declared.signs.TheConstants.{SPACE}
pub use Rattle.pg_text.specs.Faults.{IsLeast, and_then, each_of, go_on, least, unless}
unfoldable pub use Rattle.pg_text.specs.Faults.{reading}
pub use Rattle.pg_text.specs.Text.{Bytes, behind_spaces, lines, number, parts, spaced, spelled}
pub use Rattle.pg_text.specs.Text.{two_parts}
pub use Rattle.std.specs.Fmt.{decimal}
pub use Rattle.std.specs.List.{AllByRecursion, flat_map, list_all}
pub use Rattle.std.specs.Str.{bytes_eq}
