-- What the proofs of this crate name of std and of the crates below.
pub use Rattle.pg_base.proofs.Stands.{at_contains, at_new, at_old, at_push, at_set_other}
pub use Rattle.pg_base.proofs.Stands.{at_set_same, contains_at, list_all-map, list_any-map}
pub use Rattle.pg_base.proofs.Stands.{map-same_at, same_some, some≢none}
pub use Rattle.pg_game.proofs.FreePoints.{length-free_points-after}
pub use Rattle.pg_game.proofs.Limits.{point_count-le}
pub use Rattle.pg_game.proofs.Members.{Contains-head, Contains-tail, list_any-one}
pub use Rattle.pg_game.proofs.SettledLaws.{in_free_points, map-members, settle-decided}
pub use Rattle.pg_game.proofs.SettledLaws.{settle-listed, settle-unlisted, undecided-going}
pub use Rattle.pg_game.proofs.Strategy.{free_point}
pub use Rattle.pg_leaf.proofs.Nodes.{nodes-push}
pub use Rattle.pg_met.specs.Prelude.{Body, BodyHolds, Contains, Cuts, Game, Goal, IsNodeOf}
pub use Rattle.pg_met.specs.Prelude.{IsPosition, Move, Node, NodesHold, Over, Pairs, Position}
pub use Rattle.pg_met.specs.Prelude.{Potential, Reply, Score, Side, Threat, Trees, View, Weaker, X}
pub use Rattle.pg_met.specs.Prelude.{Y, after, answer_for, claimed_goal, claimer, count_by}
pub use Rattle.pg_met.specs.Prelude.{criterion_of, decided, equal_positions}
pub use Rattle.pg_met.specs.Prelude.{equal_positions-decides, filter, first_criterion, is_answer}
pub use Rattle.pg_met.specs.Prelude.{is_free, is_listed, is_none, is_over, list_all, list_any}
pub use Rattle.pg_met.specs.Prelude.{point_count, position_of, range_with_len, settled}
unfoldable pub use Rattle.pg_met.specs.Prelude.{by_moves, free_points}
pub use Rattle.std.proofs.Math.ListN.{length-set}
pub use Rattle.std.proofs.lemmas.Bool.{and_from, and_parts, cases_Bool, cases_eq, cond-false}
pub use Rattle.std.proofs.lemmas.Bool.{cond-true, false≢true, le-leb, or_cases, or_left, or_right}
pub use Rattle.std.proofs.lemmas.List.{take_more}
pub use Rattle.std.proofs.lemmas.List.Sums.{sum_by-set, sum_by_push}
pub use Rattle.std.proofs.lemmas.Option.{get_or_from_slice_get, slice_get-get_or, slice_get_within}
