-- What the proofs of this crate name of std and of the crates below.
pub use Rattle.pg_exchange.specs.Prelude.{AreEdges, AreLabels, FinSet, Graph, IsBase, IsBelow}
pub use Rattle.pg_exchange.specs.Prelude.{IsGraph, IsJoined, IsJoinedIn, IsMadeFor, IsReached}
pub use Rattle.pg_exchange.specs.Prelude.{IsSpan, IsWalk, IsWithin, below, circuit, contains}
pub use Rattle.pg_exchange.specs.Prelude.{contains-empty, difference, edge_count, either, empty}
pub use Rattle.pg_exchange.specs.Prelude.{extended}
pub use Rattle.pg_exchange.specs.Prelude.{first_end_of, insert, minus, nat_cmp, one_if}
pub use Rattle.pg_exchange.specs.Prelude.{remove, second_end_of, spans_in, union}
unfoldable pub use Rattle.pg_exchange.specs.Prelude.{both, count, outside, plus, swapped}
pub use Rattle.pg_base.proofs.BelowLemmas.{below_from, below_in, below_none, below_out, below_parts}
pub use Rattle.pg_base.proofs.BelowLemmas.{cuts, same_sets}
pub use Rattle.pg_base.proofs.SetLemmas.{both_from, both_parts, count_le, count_minus, count_plus}
pub use Rattle.pg_base.proofs.SetLemmas.{count_same, either_cases, either_left, either_right}
pub use Rattle.pg_base.proofs.SetLemmas.{minus_from, minus_parts, minus_same, minus_self}
pub use Rattle.pg_base.proofs.SetLemmas.{one_if-false, one_if-true, outside_from, outside_parts}
pub use Rattle.pg_base.proofs.SetLemmas.{plus_cases, plus_new, plus_old, plus_same, sets}
pub use Rattle.pg_graph.proofs.Bases.{circuit_by, circuit_in, free_plus}
pub use Rattle.pg_graph.proofs.Circuit.{circuit-swapped, circuit_parts}
pub use Rattle.pg_graph.proofs.GraphLemmas.{ends_in_range, joins_in-complete, joins_in-sound}
pub use Rattle.pg_graph.proofs.GraphLemmas.{spans_in-complete, spans_in-sound}
pub use Rattle.pg_graph.proofs.Growing.{extended-begin, extended-in, extended-out}
pub use Rattle.pg_graph.proofs.Rank.{count_less, count_settled}
pub use Rattle.pg_graph.proofs.Swap.{IsBase-swap, spans_mono}
pub use Rattle.pg_graph.proofs.WalkLemmas.{joined_back, joined_edge, joined_edge_back, joined_more}
pub use Rattle.pg_graph.proofs.WalkLemmas.{joined_on, joined_self}
pub use Rattle.std.proofs.Math.ListN.{length-set, set}
pub use Rattle.std.proofs.Math.Path.{fun_ext}
pub use Rattle.std.proofs.lemmas.Bool.{and_from, and_parts, both_ways, cases_Bool, cases_eq}
pub use Rattle.std.proofs.lemmas.Bool.{cases_lt, eq-eqb, eqb-true, false_from_ne_true, lt-ltb}
pub use Rattle.std.proofs.lemmas.Bool.{ltb-true, ne_eqb, not-false, not-true, not_from_false}
pub use Rattle.std.proofs.lemmas.Bool.{or_cases, or_left, or_right, true_from_ne_false}
