-- What the proofs of this crate name of std and of the crates below.
pub use Rattle.pg_span.specs.Prelude.{All, Answered, AreBases, AreBelow, AreEdges, AreJoiningTrees}
pub use Rattle.pg_span.specs.Prelude.{AreLabels, AreParts, Crosses, Draw, FinSet, ForcesBy, Graph}
pub use Rattle.pg_span.specs.Prelude.{HeldUntilReply, IsBase, IsBelow, IsFirst, IsFreeEdge, IsGraph}
pub use Rattle.pg_span.specs.Prelude.{IsJoinedIn, IsLeastFrom, IsLowest, IsMadeFor, IsPlace}
pub use Rattle.pg_span.specs.Prelude.{IsSettled, IsWithin, Matroid, Position, Room, Rules, Score}
pub use Rattle.pg_span.specs.Prelude.{Side, Win, X, XWins, Y, YWins, answered_edge, below, both}
pub use Rattle.pg_span.specs.Prelude.{claimed, contains, crosses, crossing, differ, edge_count}
pub use Rattle.pg_span.specs.Prelude.{either, ending_by, first_end_of, insert, is_free, joins_all}
pub use Rattle.pg_span.specs.Prelude.{joins_in, kept, lowest_free_edge, minus, moved, nat_cmp}
pub use Rattle.pg_span.specs.Prelude.{one_if, other, outside, reaches, remove, second_end_of}
pub use Rattle.pg_span.specs.Prelude.{short_edge, short_reply, spans_in, spare, value_by, with_set}
unfoldable pub use Rattle.pg_span.specs.Prelude.{count, elements_of, image, joins_below}
unfoldable pub use Rattle.pg_span.specs.Prelude.{joins_pairs, plus, trees_answer}
pub use Rattle.pg_base.proofs.BelowLemmas.{below_from, below_parts, same_sets}
pub use Rattle.pg_base.proofs.PointSetLaws.{contains-insert_plus, contains-union_either}
pub use Rattle.pg_base.proofs.PointSetLaws.{insert-cases}
pub use Rattle.pg_base.proofs.SetLemmas.{both_from, both_parts, count_minus, count_plus, count_same}
pub use Rattle.pg_base.proofs.SetLemmas.{either_cases, either_left, either_right, find_below}
pub use Rattle.pg_base.proofs.SetLemmas.{minus_from, minus_parts, outside_from, outside_parts}
pub use Rattle.pg_base.proofs.SetLemmas.{plus_cases, plus_new, sets}
pub use Rattle.pg_graph.proofs.EdgeTests.{crosses-unspanned, uncrossed_joins}
pub use Rattle.pg_graph.proofs.GraphLemmas.{IsSpan-graph, ends_in_range, joins_in-complete}
pub use Rattle.pg_graph.proofs.GraphLemmas.{joins_same, loops_after, spans_in-complete}
pub use Rattle.pg_graph.proofs.GraphLemmas.{spans_in-sound}
pub use Rattle.pg_graph.proofs.WalkLemmas.{joined_back, joined_by, joined_edge, joined_more}
pub use Rattle.pg_graph.proofs.WalkLemmas.{joined_on, joins_complete, joins_sound}
pub use Rattle.pg_switch.proofs.ClaimLaws.{free-next, next, turn-next, x-plus, x-same}
pub use Rattle.pg_switch.proofs.Finding.{find_below-cases, first_below, lowest_free-free}
pub use Rattle.pg_switch.proofs.Finding.{none_below}
pub use Rattle.pg_switch.proofs.JoinLaws.{ForcesBy-joining_trees}
pub use Rattle.pg_switch.proofs.PartLaws.{ForcesBy-parts, crossing-less, crossing-minus}
pub use Rattle.pg_switch.proofs.PartLaws.{crossing-none, crossing-plus, crossing-plus_off}
pub use Rattle.pg_switch.proofs.PartLaws.{joins_all-more}
pub use Rattle.pg_switch.proofs.PartLemmas.{image-at, joined_pairs}
pub use Rattle.std.proofs.lemmas.Bool.{and_from, and_parts, both_ways, cases_Bool, cases_eq}
pub use Rattle.std.proofs.lemmas.Bool.{cases_order, eqb-false, eqb-true, false_from_ne_true, lt-ltb}
pub use Rattle.std.proofs.lemmas.Bool.{ltb-true, not-true, not_from_false, or_cases, or_left}
pub use Rattle.std.proofs.lemmas.Bool.{true_from_ne_false}
pub use Rattle.std.proofs.lemmas.List.Elements.{All-from_get_or, All-get_or}
pub use Rattle.std.proofs.lemmas.Option.{slice_get-get_or, slice_get_within}
