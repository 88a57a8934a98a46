-- What the definitions of this crate name of std and of the crates below.
pub use Rattle.pg_base.specs.Points.{ShareNone}
pub use Rattle.pg_base.specs.Side.{other}
pub use Rattle.pg_base.specs.WordLemmas.{in_insert}
pub use Rattle.pg_base.specs.declared.goal.Goal.TheVariants.{Draw, Win}
pub use Rattle.pg_base.specs.declared.kind.Kind.{Kind}
pub use Rattle.pg_base.specs.declared.kind.Kind.TheVariants.{AvoiderEnforcer, MakerBreaker}
pub use Rattle.pg_base.specs.declared.kind.Kind.TheVariants.{MakerMaker, Switching}
pub use Rattle.pg_base.specs.declared.limits.TheConstants.{MAX_MEMBERS}
pub use Rattle.pg_base.specs.declared.pair.Pair.{Pair}
pub use Rattle.pg_base.specs.declared.side.Side.{Side}
pub use Rattle.pg_base.specs.declared.side.Side.TheVariants.{X, Y}
pub use Rattle.pg_game.specs.Game.{IsPosition, after, bias_of, has_filled, is_filled, is_full}
pub use Rattle.pg_game.specs.Game.{is_over, is_touched, lines_of, lowest_free, outcome, point_count}
unfoldable pub use Rattle.pg_game.specs.Game.{free_points}
pub use Rattle.pg_game.specs.Pairs.{AreOpenPairs, HoldLines, HoldsPair, IsInGame, IsSafe, PairsHold}
pub use Rattle.pg_game.specs.Pairs.{PairsLeaveNone, SharesNone, breaker_of, free_partner, has_point}
pub use Rattle.pg_game.specs.Pairs.{if_free, is_loose, is_open, is_paired, partner, unpaired}
pub use Rattle.pg_game.specs.Pairs.{unpaired_due}
unfoldable pub use Rattle.pg_game.specs.Pairs.{pairs_answer}
pub use Rattle.pg_game.specs.Position.{claims_in_turn, is_free, points_of}
pub use Rattle.pg_game.specs.Value.{Forces, reaches}
pub use Rattle.pg_game.specs.declared.game.Game.{Game}
pub use Rattle.pg_game.specs.declared.position.Position.{Position}
pub use Rattle.std.specs.FinSet.{FinSet, contains, contains-empty, insert}
pub use Rattle.std.specs.List.{All, AllPairs, Any, Contains, filter, find, list_any, range_with_len}
pub use Rattle.std.specs.Ordering.{nat_cmp}
