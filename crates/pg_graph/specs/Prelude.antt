-- What the definitions of this crate name of std and of the crates below.
pub use Rattle.pg_base.specs.Sets.{IsBelow, IsWithin, minus, one_if, plus}
unfoldable pub use Rattle.pg_base.specs.Sets.{below, both, count, cut_below, either, outside}
pub use Rattle.std.specs.FinSet.{FinSet, contains}
