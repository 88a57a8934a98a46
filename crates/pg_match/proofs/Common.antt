-- What the proofs of this crate name of std and of the crates below.
pub use Rattle.pg_match.specs.Prelude.{All, AllPairs, AllZip, Any, AvoiderEnforcer, Contains}
pub use Rattle.pg_match.specs.Prelude.{FinSet, Game, HoldsPair, IsInGame, IsSafe, LruCache}
pub use Rattle.pg_match.specs.Prelude.{MakerBreaker, MakerMaker, OnErr, OnOk, Pair, PairsHold}
pub use Rattle.pg_match.specs.Prelude.{PairsLeaveNone, Position, SharesNone, Side, Switching}
pub use Rattle.pg_match.specs.Prelude.{avoider_can_pair, breaker_of, contains, contains-empty}
pub use Rattle.pg_match.specs.Prelude.{empty, filter, flat_map, has_lines, has_point, insert}
pub use Rattle.pg_match.specs.Prelude.{is_free, is_graph, is_open, is_pairable, is_paired}
pub use Rattle.pg_match.specs.Prelude.{is_switching, is_touched, len, len-insert, lines_meant}
pub use Rattle.pg_match.specs.Prelude.{lines_of, list_any, lookup, lookup_entry, lru_cache, nat_cmp}
pub use Rattle.pg_match.specs.Prelude.{nat_cmp_total, one_if, point_count, points_of, promoted}
pub use Rattle.pg_match.specs.Prelude.{put_entries, range_with_len, remove, remove_entry, unpaired}
pub use Rattle.pg_match.specs.Prelude.{unpaired_due}
unfoldable pub use Rattle.pg_match.specs.Prelude.{count, free_points, has_private_pairs, minus}
unfoldable pub use Rattle.pg_match.specs.Prelude.{pairs_exist, plus}
pub use Rattle.pg_base.proofs.PointSetLaws.{contains-insert_plus, insert-cases, insert-old}
pub use Rattle.pg_base.proofs.PointSetLaws.{insert-other, insert-remove, insert-self, len-count}
pub use Rattle.pg_base.proofs.PointSetLaws.{remove-other, remove-self}
pub use Rattle.pg_base.proofs.SetLemmas.{count_le, count_minus, count_plus, count_same, minus_from}
pub use Rattle.pg_base.proofs.SetLemmas.{minus_parts, minus_same, one_if_le}
pub use Rattle.pg_base.proofs.Stands.{at_new, at_old, at_push, at_set, at_set_other, at_set_same}
pub use Rattle.pg_base.proofs.Stands.{contains_at, one_at}
pub use Rattle.pg_game.proofs.Members.{All-from_members, Contains-filter, Contains-head}
pub use Rattle.pg_game.proofs.Members.{Contains-tail, filter_both, list_any-one, member-from_any}
pub use Rattle.std.proofs.lemmas.Bool.{and_from, and_parts, both_ways, cases_Bool, cases_eq}
pub use Rattle.std.proofs.lemmas.Bool.{cases_lt, cases_order, eqb-true, false_from_ne_true}
pub use Rattle.std.proofs.lemmas.Bool.{false≢true, lt-ltb, ltb-true, not-true, not_from_false}
pub use Rattle.std.proofs.lemmas.Bool.{or_cases, or_left, or_right}
pub use Rattle.std.proofs.lemmas.Bool.Decides.{nat_tests}
pub use Rattle.std.proofs.lemmas.List.{get_or-drop, get_or-map, get_or-take, get_or_append_left}
pub use Rattle.std.proofs.lemmas.List.{get_or_default, get_or_past, get_or_read, length-append}
pub use Rattle.std.proofs.lemmas.List.{length-drop, length-map, length-set, length-take}
pub use Rattle.std.proofs.lemmas.List.{length-take-le, length_push, map-id, map_push, take-map}
pub use Rattle.std.proofs.lemmas.List.{take_all}
pub use Rattle.std.proofs.lemmas.List.Elements.{All-append, All-cons, All-contains}
pub use Rattle.std.proofs.lemmas.List.Elements.{All-contains_itself, All-head, All-map, All-more}
pub use Rattle.std.proofs.lemmas.List.Elements.{All-nil, All-push, All-tail, All-take, All-weaker}
pub use Rattle.std.proofs.lemmas.List.Elements.{Contains-append_left, Contains-append_right}
pub use Rattle.std.proofs.lemmas.List.Elements.{Contains-get_or, filter_agree, filter_more}
pub use Rattle.std.proofs.lemmas.List.FromFn.{filter_of_map_range_with_len_more}
pub use Rattle.std.proofs.lemmas.List.FromFn.{get_or-map-range_with_len, get_or-range_with_len}
pub use Rattle.std.proofs.lemmas.List.FromFn.{length-map-range_with_len, length-range_with_len}
pub use Rattle.std.proofs.lemmas.List.FromFn.{map-range_with_len_more}
pub use Rattle.std.proofs.lemmas.Option.{MatchOption-at_none, MatchOption-at_some}
pub use Rattle.std.proofs.lemmas.Option.{get_or_from_slice_get, none-some, same_Some}
pub use Rattle.std.proofs.lemmas.Option.{slice_get-get_or, slice_get_within}
