-- What the definitions of this crate name of std and of the crates below.
pub use Rattle.pg_base.specs.Line.{StandsTwice}
pub use Rattle.pg_base.specs.declared.kind.Kind.TheVariants.{MakerBreaker, Switching}
pub use Rattle.pg_base.specs.declared.side.Side.TheVariants.{X}
pub use Rattle.pg_game.specs.Fit.{AreLinesOf, IsBoard, IsFit, IsLineOf}
pub use Rattle.pg_game.specs.Game.{IsGameOf}
pub use Rattle.pg_game.specs.Rows.{IsLineOfRow}
pub use Rattle.pg_game.specs.declared.field.Field.{Field}
pub use Rattle.pg_game.specs.declared.field.Field.TheVariants.{Lines}
pub use Rattle.pg_game.specs.declared.field.LineField.{LineField}
pub use Rattle.pg_game.specs.declared.game.Game.{Game}
pub use Rattle.pg_graph.specs.declared.graph.Graph.{Graph}
pub use Rattle.std.specs.FinSet.{FinSet, contains-empty, empty}
pub use Rattle.std.specs.List.{All, AllPairs, AllZip, count_by, flat_map, range_with_len, swap}
pub use Rattle.std.specs.List.Sorted.{IsPermutation, IsStrictlyIncreasing}
