-- What the definitions of this crate name of std and of the crates below.
pub use Rattle.pg_text.specs.Faults.{Becomes, IsReadAs, go_on, least, unless}
unfoldable pub use Rattle.pg_text.specs.Faults.{reading}
pub use Rattle.pg_text.specs.Text.{Bytes, number}
unfoldable pub use Rattle.pg_text.specs.Text.{lines, words}
pub use Rattle.std.specs.Int.{abs_diff}
pub use Rattle.std.specs.List.{All, AllByRecursion, list_any}
pub use Rattle.std.specs.Str.{bytes_eq}
