-- What the proofs of this crate name of std and of the crates below.
pub use Rattle.pg_plain.specs.Prelude.{All, AreBelow, Contains, Filling, FinSet, Forcing, Game}
pub use Rattle.pg_plain.specs.Prelude.{LeadsToLine, Position, Score, Side, Switching, X, Y, after}
pub use Rattle.pg_plain.specs.Prelude.{answer_for, at_least, attack_wins, avoider_can_pair}
pub use Rattle.pg_plain.specs.Prelude.{avoider_limit, avoider_risk, best, better, breaker_of}
pub use Rattle.pg_plain.specs.Prelude.{class_by, contains, defender, defends, filter}
pub use Rattle.pg_plain.specs.Prelude.{greatest_weight, has_lines, has_threat_line, is_answer}
pub use Rattle.pg_plain.specs.Prelude.{is_filled, is_free, is_graph, is_listed, is_near, is_on}
pub use Rattle.pg_plain.specs.Prelude.{is_over, is_switching, is_touched, limit, lines_of, list_all}
pub use Rattle.pg_plain.specs.Prelude.{list_any, nat_cmp, outcome, point_count, points_of}
pub use Rattle.pg_plain.specs.Prelude.{range_with_len, settled, threatens, times_counted, total}
pub use Rattle.pg_plain.specs.Prelude.{value, weight, with_turn}
unfoldable pub use Rattle.pg_plain.specs.Prelude.{avoider_holds, by_moves, class_of, decided}
unfoldable pub use Rattle.pg_plain.specs.Prelude.{first_criterion, free_points, has_private_pairs}
unfoldable pub use Rattle.pg_plain.specs.Prelude.{minus, pairs_exist, potential_holds}
pub use Rattle.pg_game.proofs.FreePoints.{length-free_points-after}
pub use Rattle.pg_game.proofs.Greatest.{greatest-le, running, running-all, running-next}
pub use Rattle.pg_game.proofs.Greatest.{running-none}
pub use Rattle.pg_game.proofs.Members.{Contains-head, Contains-tail, member-from_any}
pub use Rattle.pg_game.proofs.SettledLaws.{settle-decided, settle-listed, settle-unlisted}
pub use Rattle.pg_game.proofs.WeightBounds.{bias-few, few_points-lines, small_points, total-few}
pub use Rattle.std.proofs.lemmas.Bool.{and_parts, cases_Bool, cond-false, cond-true, eqb-true}
pub use Rattle.std.proofs.lemmas.Bool.{false≢true, ltb-false, ltb-true, or_right}
pub use Rattle.std.proofs.lemmas.List.Elements.{All-contains, All-contains_itself, All-filter}
