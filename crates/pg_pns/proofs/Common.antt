-- What the proofs of this crate name of std and of the crates below.
pub use Rattle.pg_base.proofs.Stands.{at_contains, at_new, at_old, at_push, at_set_other}
pub use Rattle.pg_base.proofs.Stands.{at_set_same, contains_at, contains_old, contains_push}
pub use Rattle.pg_base.proofs.Stands.{from_take, in_take, one_at, same_some, some≢none}
pub use Rattle.pg_game.proofs.FreePoints.{length-free_points-after}
pub use Rattle.pg_game.proofs.Limits.{point_count-le}
pub use Rattle.pg_game.proofs.Members.{Contains-head, Contains-tail, false-at, member-from_any}
pub use Rattle.pg_game.proofs.SettledLaws.{in_free_points, map-members, undecided-going}
pub use Rattle.pg_game.proofs.Strategy.{free_point}
pub use Rattle.pg_leaf.proofs.Nodes.{nodes-cut}
pub use Rattle.pg_pns.specs.Prelude.{All, AreMarked, Body, BodyHolds, Claim, Contains, Cuts, Game}
pub use Rattle.pg_pns.specs.Prelude.{Goal, HasWeaker, IfNone, IsAt, IsClaim, IsInGame, IsMoved}
pub use Rattle.pg_pns.specs.Prelude.{IsNode, IsOfVersion, IsOpenTable, IsOpened, IsPosition}
pub use Rattle.pg_pns.specs.Prelude.{IsPruned, IsTable, IsTurn, IsUsed, IsValidClaim, Move, Node}
pub use Rattle.pg_pns.specs.Prelude.{NodesHold, One, Over, Pairs, Passes, Position, Potential}
pub use Rattle.pg_pns.specs.Prelude.{Renumbers, Score, Side, Stand, Threat, Trees, View, Weaker, X}
pub use Rattle.pg_pns.specs.Prelude.{Y, after, answer_for, bias_of, claimed_goal, claimer, count_by}
pub use Rattle.pg_pns.specs.Prelude.{criterion_of, decided, equal_positions}
pub use Rattle.pg_pns.specs.Prelude.{equal_positions-decides, filter, has_body, is_answer, is_free}
pub use Rattle.pg_pns.specs.Prelude.{is_listed, is_none, is_over, is_some, keys_of, list_all}
pub use Rattle.pg_pns.specs.Prelude.{list_any, lookup, point_count, position_of, range_with_len}
pub use Rattle.pg_pns.specs.Prelude.{settled, start, sum_by, with_items, with_turn}
unfoldable pub use Rattle.pg_pns.specs.Prelude.{by_moves, free_points}
pub use Rattle.std.proofs.Math.ListN.{length-set}
pub use Rattle.std.proofs.Math.Nat.{div-mul-le_self, mul-le-mul_right}
pub use Rattle.std.proofs.lemmas.Bool.{and_from, cases_Bool, cases_eq, cond-false, cond-true}
pub use Rattle.std.proofs.lemmas.Bool.{eq-eqb, eqb-true, false≢true, le-ltb, lt-ltb, or_parts}
pub use Rattle.std.proofs.lemmas.List.{length-map, length-take-le, take-append-le, take_more}
pub use Rattle.std.proofs.lemmas.List.{with_items_is}
pub use Rattle.std.proofs.lemmas.List.Elements.{Contains-append_cases, Contains-append_left}
pub use Rattle.std.proofs.lemmas.List.Elements.{Contains-append_right, Contains-get_or}
pub use Rattle.std.proofs.lemmas.List.Elements.{Contains-push}
pub use Rattle.std.proofs.lemmas.List.Sums.{get_or-le-sum_by}
pub use Rattle.std.proofs.lemmas.Option.{get_or_from_slice_get, slice_get-get_or, slice_get_read}
pub use Rattle.std.proofs.lemmas.Option.{slice_get_within}
