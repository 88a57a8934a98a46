-- What the definitions of this crate name of std and of the crates below.
pub use Rattle.pg_base.specs.Points.{IsLeastFrom, ShareNone}
pub use Rattle.pg_base.specs.Side.{other}
pub use Rattle.pg_base.specs.WordLemmas.{in_insert, in_remove, same_points}
pub use Rattle.pg_base.specs.declared.kind.Kind.TheVariants.{MakerMaker}
pub use Rattle.pg_base.specs.declared.side.Side.{Side}
pub use Rattle.pg_base.specs.declared.side.Side.TheVariants.{X, Y}
pub use Rattle.pg_board.specs.Board.{Stand, View, count_of, is_live_with, line_at}
unfoldable pub use Rattle.pg_board.specs.Board.{live_lines, live_with}
pub use Rattle.pg_board.specs.Passing.{passed}
unfoldable pub use Rattle.pg_board.specs.Shape.{lines_holding}
pub use Rattle.pg_game.specs.Game.{IsPosition, after, has_filled, is_filled, is_over, is_touched}
pub use Rattle.pg_game.specs.Game.{lines_of, point_count}
pub use Rattle.pg_game.specs.Position.{is_free, points_of}
pub use Rattle.pg_game.specs.Potential.{is_on}
pub use Rattle.pg_game.specs.Threat.{AreDeeper, ComesFirst, Filling, Forcing, IsAttack, IsAttacking}
pub use Rattle.pg_game.specs.Threat.{IsFirstThreatLine, IsThreatLine, IsUnfilled, LeadsToLine}
pub use Rattle.pg_game.specs.Threat.{depth_of, has_threat, is_near, may_attack, threatens}
unfoldable pub use Rattle.pg_game.specs.Threat.{has_threat_line}
pub use Rattle.pg_game.specs.declared.game.Game.{Game}
pub use Rattle.pg_game.specs.declared.position.Position.{Position}
pub use Rattle.std.specs.FinSet.{FinSet, contains, contains-empty, empty, insert, remove}
pub use Rattle.std.specs.List.{All, Contains, count_by, find, list_all, list_any, range_with_len}
pub use Rattle.std.specs.List.{slice_get}
pub use Rattle.std.specs.Option.{is_some}
pub use Rattle.std.specs.Ordering.{nat_cmp}
