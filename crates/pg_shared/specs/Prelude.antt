-- What the definitions of this crate name of std and of the crates below.
pub use Rattle.pg_base.specs.Points.{AreWithin}
pub use Rattle.pg_base.specs.declared.kind.Kind.TheVariants.{AvoiderEnforcer}
pub use Rattle.pg_base.specs.declared.limits.TheConstants.{MAX_MEMBERS}
pub use Rattle.pg_base.specs.declared.pair.Pair.{Pair}
pub use Rattle.pg_game.specs.Decided.{avoider_can_pair, is_pairable}
pub use Rattle.pg_game.specs.Game.{IsPosition, is_touched, lines_of}
unfoldable pub use Rattle.pg_game.specs.Game.{free_points}
pub use Rattle.pg_game.specs.Pairs.{PairsHold}
pub use Rattle.pg_game.specs.declared.position.Position.{Position}
pub use Rattle.std.specs.FinSet.{FinSet, contains, difference, from_list, len}
pub use Rattle.std.specs.List.{All, Contains, filter, list_any}
pub use Rattle.std.specs.Ordering.{nat_cmp}
