-- What the proofs of this crate name of std and of the crates below.
pub use Rattle.pg_graph.specs.Prelude.{FinSet, IsBelow, IsWithin, contains, minus, one_if, plus}
unfoldable pub use Rattle.pg_graph.specs.Prelude.{below, both, count, cut_below, either, outside}
pub use Rattle.pg_base.proofs.BelowLemmas.{below_from, below_in, below_out, below_parts, same_sets}
pub use Rattle.pg_base.proofs.PointSetLaws.{contains-difference_outside, contains-insert_plus}
pub use Rattle.pg_base.proofs.PointSetLaws.{contains-remove_minus, contains-union_either}
pub use Rattle.pg_base.proofs.SetLemmas.{both_from, both_parts, count_both_either, count_le}
pub use Rattle.pg_base.proofs.SetLemmas.{count_minus, count_plus, either_cases, either_left}
pub use Rattle.pg_base.proofs.SetLemmas.{either_right, find_below, minus_from, minus_parts}
pub use Rattle.pg_base.proofs.SetLemmas.{outside_from, outside_parts, plus_cases, plus_new}
pub use Rattle.pg_base.proofs.SetLemmas.{plus_old, sets}
pub use Rattle.std.proofs.Math.Bool.{beq}
pub use Rattle.std.proofs.Math.ListN.{length-set, set}
pub use Rattle.std.proofs.lemmas.Bool.{and_cases, and_from, and_left, and_parts, and_right}
pub use Rattle.std.proofs.lemmas.Bool.{both_ways, cases_Bool, cases_eq, cases_lt, eq-eqb, eqb-true}
pub use Rattle.std.proofs.lemmas.Bool.{false_from_ne_true, le-ltb, lt-ltb, ne_eqb, not-true}
pub use Rattle.std.proofs.lemmas.Bool.{not_from_false, or_cases, or_left, or_right}
pub use Rattle.std.proofs.lemmas.Bool.{true_from_ne_false}
pub use Rattle.std.proofs.lemmas.List.{get_or-set_other, get_or-set_same, take_at}
