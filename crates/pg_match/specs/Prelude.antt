-- What the definitions of this crate name of std and of the crates below.
pub use Rattle.lru.specs.LruCache.{LruCache, lru_cache, promoted, put_entries}
pub use Rattle.pg_base.specs.Sets.{one_if}
unfoldable pub use Rattle.pg_base.specs.Sets.{count, minus, plus}
pub use Rattle.pg_base.specs.declared.kind.Kind.TheVariants.{AvoiderEnforcer, MakerBreaker}
pub use Rattle.pg_base.specs.declared.kind.Kind.TheVariants.{MakerMaker, Switching}
pub use Rattle.pg_base.specs.declared.limits.TheConstants.{MAX_MEMBERS}
pub use Rattle.pg_base.specs.declared.pair.Pair.{Pair}
pub use Rattle.pg_base.specs.declared.side.Side.{Side}
pub use Rattle.pg_game.specs.Decided.{avoider_can_pair, has_lines, is_pairable, lines_meant}
unfoldable pub use Rattle.pg_game.specs.Decided.{has_private_pairs, pairs_exist}
pub use Rattle.pg_game.specs.Fit.{is_graph, is_switching}
pub use Rattle.pg_game.specs.Game.{is_touched, lines_of, point_count}
unfoldable pub use Rattle.pg_game.specs.Game.{free_points}
pub use Rattle.pg_game.specs.Pairs.{HoldsPair, IsInGame, IsSafe, PairsHold, PairsLeaveNone}
pub use Rattle.pg_game.specs.Pairs.{SharesNone, breaker_of, has_point, is_open, is_paired, unpaired}
pub use Rattle.pg_game.specs.Pairs.{unpaired_due}
pub use Rattle.pg_game.specs.Position.{is_free, points_of}
pub use Rattle.pg_game.specs.declared.game.Game.{Game}
pub use Rattle.pg_game.specs.declared.position.Position.{Position}
pub use Rattle.std.specs.Cmp.{IsEquivalence, IsPartialEquivalence, decided, nat_cmp_total}
pub use Rattle.std.specs.Cmp.{partial_equiv_from_equiv}
pub use Rattle.std.specs.FinSet.{FinSet, contains, contains-empty, empty, insert, len, len-insert}
pub use Rattle.std.specs.FinSet.{remove}
pub use Rattle.std.specs.List.{All, AllPairs, AllZip, Any, Contains, filter, flat_map, list_any}
pub use Rattle.std.specs.List.{range_with_len}
pub use Rattle.std.specs.Map.{lookup, lookup_entry, remove_entry}
pub use Rattle.std.specs.Ordering.{nat_cmp}
pub use Rattle.std.specs.Result.{OnErr, OnOk}
