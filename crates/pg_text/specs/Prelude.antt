-- What the definitions of this crate name of std and of the crates below.
pub use Rattle.pg_base.specs.declared.signs.TheConstants.{LINE_FEED, SPACE}
pub use Rattle.std.specs.Char.{digit_value, is_ascii_digit}
pub use Rattle.std.specs.Fmt.{decimal}
pub use Rattle.std.specs.Iterator.{YieldsFirstRef, item_count}
pub use Rattle.std.specs.List.{All, AllByRecursion, IsAllAdjacentAnswer, after_first}
pub use Rattle.std.specs.List.{flat_map, list_all, list_any, position, position_or_len, slice_split}
pub use Rattle.std.specs.Str.Parse.{AllDigits, digits_value}
