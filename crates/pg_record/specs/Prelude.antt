-- What the definitions of this crate name of std and of the crates below.
pub use Rattle.pg_base.specs.declared.kind.Kind.TheVariants.{Switching}
pub use Rattle.pg_base.specs.declared.signs.TheConstants.{SPACE}
pub use Rattle.pg_board.specs.Board.{Stand, View}
pub use Rattle.pg_game.specs.Game.{IsPosition, after, point_count, start}
pub use Rattle.pg_game.specs.Judge.{IsMadeForGame, judged_move}
pub use Rattle.pg_game.specs.Play.{IsLegalPlay, played}
pub use Rattle.pg_game.specs.declared.game.Game.{Game}
pub use Rattle.pg_game.specs.declared.position.Illegal.{Illegal}
pub use Rattle.pg_game.specs.declared.position.Illegal.TheVariants.{Over, Range, Taken}
pub use Rattle.pg_game.specs.declared.position.Position.{Position}
pub use Rattle.pg_text.specs.Faults.{IsLeast, and_then, go_on, least, unless}
unfoldable pub use Rattle.pg_text.specs.Faults.{reading}
pub use Rattle.pg_text.specs.Text.{Bytes, lines, number, parts, spaced, spelled}
pub use Rattle.std.specs.Fmt.{decimal}
pub use Rattle.std.specs.List.{AllByRecursion, flat_map}
pub use Rattle.std.specs.Str.{bytes_eq}
pub use Rattle.std.specs.Vec.{vec_len}
