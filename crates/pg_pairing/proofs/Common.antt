-- What the proofs of this crate name of std and of the crates below.
pub use Rattle.pg_pairing.specs.Prelude.{All, AllPairs, Any, AreOpenPairs, AvoiderEnforcer}
pub use Rattle.pg_pairing.specs.Prelude.{Contains, FinSet, Forces, Game, HoldLines, HoldsPair}
pub use Rattle.pg_pairing.specs.Prelude.{IsInGame, IsPosition, IsSafe, Kind, MAX_MEMBERS}
pub use Rattle.pg_pairing.specs.Prelude.{MakerBreaker, MakerMaker, Pair, PairsHold, PairsLeaveNone}
pub use Rattle.pg_pairing.specs.Prelude.{Position, ShareNone, SharesNone, Side, Switching, Win, X}
pub use Rattle.pg_pairing.specs.Prelude.{Y, after, bias_of, breaker_of, claims_in_turn, contains}
pub use Rattle.pg_pairing.specs.Prelude.{contains-empty, filter, find, free_partner, has_filled}
pub use Rattle.pg_pairing.specs.Prelude.{has_point, if_free, in_insert, insert, is_filled, is_free}
pub use Rattle.pg_pairing.specs.Prelude.{is_full, is_loose, is_open, is_over, is_paired, is_touched}
pub use Rattle.pg_pairing.specs.Prelude.{lines_of, list_any, lowest_free, nat_cmp, other, outcome}
pub use Rattle.pg_pairing.specs.Prelude.{partner, point_count, points_of, range_with_len, reaches}
pub use Rattle.pg_pairing.specs.Prelude.{unpaired, unpaired_due}
unfoldable pub use Rattle.pg_pairing.specs.Prelude.{free_points, pairs_answer}
pub use Rattle.pg_game.proofs.FreeCounts.{passed, passed-both, passed-more, passed-none}
pub use Rattle.pg_game.proofs.FreeCounts.{passed-same}
pub use Rattle.pg_game.proofs.FreePoints.{any-free_points, first_free, is_free-after, is_full-one}
pub use Rattle.pg_game.proofs.Greatest.{free-member}
pub use Rattle.pg_game.proofs.Limits.{point_count-le}
pub use Rattle.pg_game.proofs.Lowest.{any_both, find_same, first_below, none_below}
pub use Rattle.pg_game.proofs.Members.{All-from_members, Contains-filter, Contains-head}
pub use Rattle.pg_game.proofs.Members.{Contains-tail, apart-or_same, false-at, filter_both}
pub use Rattle.pg_game.proofs.Members.{list_any-none, list_any-one, member-from_any, true-at}
pub use Rattle.pg_game.proofs.Moves.{IsPosition-after, apart, free-of, free-stays, free-was}
pub use Rattle.pg_game.proofs.Moves.{own-point, points-stay, points_of-waiter, side≢other}
pub use Rattle.pg_game.proofs.Moves.{turn-after_x, turn-replied}
pub use Rattle.std.proofs.lemmas.Bool.{and_from, and_parts, cases_Bool, cases_eq, false≢true}
pub use Rattle.std.proofs.lemmas.Bool.{not-true, not_from_false, or_cases, or_from, or_left}
pub use Rattle.std.proofs.lemmas.Bool.{or_parts, or_right}
pub use Rattle.std.proofs.lemmas.List.{get_or-replicate, get_or-set_other, get_or-set_same}
pub use Rattle.std.proofs.lemmas.List.{get_or_default, length-set, take_more}
pub use Rattle.std.proofs.lemmas.List.Elements.{All-contains, All-contains_itself, All-filter}
pub use Rattle.std.proofs.lemmas.List.Elements.{All-get_or, All-head, All-nil, All-push, All-tail}
pub use Rattle.std.proofs.lemmas.List.Elements.{All-weaker, Contains-get_or}
pub use Rattle.std.proofs.lemmas.List.Elements.{filter_passes}
pub use Rattle.std.proofs.lemmas.Option.{none-some, same_Some}
