-- What the proofs of this crate name of std and of the crates below.
pub use Rattle.pg_switch.specs.Prelude.{Answered, AreBelow, AreBothEdges, AreCuts, AreEdges}
pub use Rattle.pg_switch.specs.Prelude.{AreFreeEdges, AreFreeWithE, AreTrees, Crosses, CutsHold}
pub use Rattle.pg_switch.specs.Prelude.{CutsHoldOn, Field, FinSet, Forces, ForcesBy, Game, Graph}
pub use Rattle.pg_switch.specs.Prelude.{IsBase, IsBelow, IsBridge, IsCuts, IsEnding, IsFreeEdge}
pub use Rattle.pg_switch.specs.Prelude.{IsJoined, IsLowest, IsPosition, IsReached, IsSpan, IsTrees}
pub use Rattle.pg_switch.specs.Prelude.{IsWalk, IsWithin, JoinsEndsOf, KeepsBy, Lines, Parts}
pub use Rattle.pg_switch.specs.Prelude.{Position, Rules, Side, TreesHold, TreesHoldOn, Win, X}
pub use Rattle.pg_switch.specs.Prelude.{XWins, Y, YWins, after, all_touched, answered_edge, below}
pub use Rattle.pg_switch.specs.Prelude.{both, can_join, circuit, claimed, claims_in_turn, contains}
pub use Rattle.pg_switch.specs.Prelude.{contains-empty, cut_edge, differ, difference, edge_count}
pub use Rattle.pg_switch.specs.Prelude.{either, empty, field_joins, field_points, find, first_end}
pub use Rattle.pg_switch.specs.Prelude.{first_end_of, greatest_bias, has_filled, insert, is_free}
pub use Rattle.pg_switch.specs.Prelude.{is_full, is_over_by, joins, joins_in, lowest_crossing}
pub use Rattle.pg_switch.specs.Prelude.{lowest_free_edge, lowest_parting, moved, nat_cmp, one_if}
pub use Rattle.pg_switch.specs.Prelude.{other, outcome_by, plus, point_count, range_with_len}
pub use Rattle.pg_switch.specs.Prelude.{reaches, remove, rules_of, second_end, second_end_of}
pub use Rattle.pg_switch.specs.Prelude.{short_edge, short_joins, spans_in, terminals_joined, union}
pub use Rattle.pg_switch.specs.Prelude.{with_set, without_set}
pub use Rattle.pg_switch.specs.Prelude.{IsPlayBy, Score, ending_by, is_same_side, judged_by}
pub use Rattle.pg_switch.specs.Prelude.{played_by}
unfoldable pub use Rattle.pg_switch.specs.Prelude.{count, crosses, cuts_answer, edge_spans, is_over}
unfoldable pub use Rattle.pg_switch.specs.Prelude.{minus, outcome, outside, parts, trees_answer}
pub use Rattle.pg_base.proofs.BelowLemmas.{below_from, below_in, below_none, below_out, below_parts}
pub use Rattle.pg_base.proofs.BelowLemmas.{same_sets}
pub use Rattle.pg_base.proofs.PointSetLaws.{contains-difference_outside, contains-insert_plus}
pub use Rattle.pg_base.proofs.PointSetLaws.{contains-remove_minus, contains-union_either}
pub use Rattle.pg_base.proofs.PointSetLaws.{insert-cases, insert-old, insert-self, remove-old}
pub use Rattle.pg_base.proofs.PointSetLaws.{remove-other, remove-self}
pub use Rattle.pg_base.proofs.SetLemmas.{both_from, both_parts, count_both_either, count_le}
pub use Rattle.pg_base.proofs.SetLemmas.{count_minus, count_plus, either_cases, either_left}
pub use Rattle.pg_base.proofs.SetLemmas.{either_right, find_below, minus_from, minus_parts}
pub use Rattle.pg_base.proofs.SetLemmas.{minus_same, minus_self, one_if-false, one_if-true}
pub use Rattle.pg_base.proofs.SetLemmas.{one_if_le, outside_from, outside_parts, plus_cases}
pub use Rattle.pg_base.proofs.SetLemmas.{plus_new, plus_old}
pub use Rattle.pg_game.proofs.Moves.{free-of, free-stays}
pub use Rattle.pg_game.proofs.RulesLaws.{ForcesBy-from_keeps, ForcesBy-move, ForcesBy-over}
pub use Rattle.pg_game.proofs.RulesLaws.{is_free-moved, some_free}
pub use Rattle.pg_game.proofs.Sides.{other_other, side_cases, side≢other}
pub use Rattle.pg_graph.proofs.GraphLemmas.{IsSpan-graph, joins-below, joins_in-complete}
pub use Rattle.pg_graph.proofs.GraphLemmas.{joins_more, joins_same, spans_e-complete, spans_e-sound}
pub use Rattle.pg_graph.proofs.GraphLemmas.{spans_in-complete, spans_in-joins, spans_in-sound}
pub use Rattle.pg_graph.proofs.GraphLemmas.{unspanned-apart, unspanned-from}
pub use Rattle.pg_graph.proofs.Spans.{IsSpan-edges, edge_spans_complete, edge_spans_sound}
pub use Rattle.pg_graph.proofs.Swap.{spans_mono}
pub use Rattle.pg_graph.proofs.Trees.{IsTrees-answered, IsTrees-claimed, IsTrees-dropped}
pub use Rattle.pg_graph.proofs.Trees.{IsTrees-other, spans_none}
pub use Rattle.pg_graph.proofs.WalkLemmas.{joined_back, joined_by, joined_edge, joined_more}
pub use Rattle.pg_graph.proofs.WalkLemmas.{joined_on, joins_complete, joins_sound}
pub use Rattle.std.proofs.lemmas.Bool.{and_from, and_parts, both_ways, cases_Bool, cases_eq}
pub use Rattle.std.proofs.lemmas.Bool.{cases_lt, cond-false, cond-true, eq-eqb, eqb-true}
pub use Rattle.std.proofs.lemmas.Bool.{false_from_ne_true, le-ltb, lt-ltb, ltb-true, ne_eqb}
pub use Rattle.std.proofs.lemmas.Bool.{not-true, not_from_false, or_cases, or_left, or_right}
pub use Rattle.std.proofs.lemmas.Bool.{true_from_ne_false}
