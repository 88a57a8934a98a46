-- What the proofs of this crate name of std and of the crates below.
pub use Rattle.pg_leaf.specs.Prelude.{All, AvoiderEnforcer, Body, ByEnd, ByPairs, ByPotential}
pub use Rattle.pg_leaf.specs.Prelude.{ByThreat, Contains, Criterion, Cuts, FollowMoves, Game, Goal}
pub use Rattle.pg_leaf.specs.Prelude.{IsMarked, IsNodeOf, IsPair, IsPosition, IsQuestion}
pub use Rattle.pg_leaf.specs.Prelude.{IsThreatLine, LeadsToLine, MakerBreaker, MakerMaker, Move}
pub use Rattle.pg_leaf.specs.Prelude.{NamesEarlier, Node, Over, Pair, Pairs, PairsHold, Position}
pub use Rattle.pg_leaf.specs.Prelude.{Potential, PotentialFits, Reply, Score, Side, Switching}
pub use Rattle.pg_leaf.specs.Prelude.{Threat, Trees, View, Weaker, after, answer_by, answer_for}
pub use Rattle.pg_leaf.specs.Prelude.{at_least, avoider_can_pair, breaker_of, by_end, claimed_goal}
pub use Rattle.pg_leaf.specs.Prelude.{claimer, count, count_by, defender, defends, find, has_filled}
pub use Rattle.pg_leaf.specs.Prelude.{has_lines, is_free, is_live_with, is_over, is_touched}
pub use Rattle.pg_leaf.specs.Prelude.{line_at, lines_meant, lines_of, list_any, may_attack, minus}
pub use Rattle.pg_leaf.specs.Prelude.{outcome_by, pairs_fit, point_count, points_of, position_of}
pub use Rattle.pg_leaf.specs.Prelude.{range_with_len, short_joins, shows_defence}
unfoldable pub use Rattle.pg_leaf.specs.Prelude.{attack_wins, decided, first_criterion, free_points}
unfoldable pub use Rattle.pg_leaf.specs.Prelude.{has_private_pairs, live_lines, live_with, outcome}
unfoldable pub use Rattle.pg_leaf.specs.Prelude.{pairs_exist}
pub use Rattle.pg_base.proofs.Stands.{at_contains, at_new, at_old, at_push, at_set_other}
pub use Rattle.pg_base.proofs.Stands.{at_set_same, contains_at, contains_old, contains_push}
pub use Rattle.pg_base.proofs.Stands.{from_take, in_take, map-same_at, one_at, same_some, some≢none}
pub use Rattle.pg_game.proofs.Limits.{lines-range, point_count-le}
pub use Rattle.pg_game.proofs.Members.{Contains-filter, Contains-head, Contains-tail}
pub use Rattle.pg_game.proofs.Members.{member-from_any}
pub use Rattle.std.proofs.Math.ListN.{length-replicate, length-set, replicate}
pub use Rattle.std.proofs.lemmas.Bool.{and_from, and_parts, cases_Bool, cases_eq, cases_order}
pub use Rattle.std.proofs.lemmas.Bool.{cond-false, cond-true, eq-eqb, eqb-true, false_from_ne_true}
pub use Rattle.std.proofs.lemmas.Bool.{false≢true, ltb-true}
pub use Rattle.std.proofs.lemmas.List.{get_or-replicate, take_more}
pub use Rattle.std.proofs.lemmas.List.Elements.{All-contains, All-filter}
pub use Rattle.std.proofs.lemmas.Option.{get_or_from_slice_get, slice_get-get_or, slice_get_within}
