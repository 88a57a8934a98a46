-- What the proofs of this crate name of std and of the crates below.
pub use Rattle.pg_gf2.specs.Prelude.{All, AreBelow, AreFree, AreFreeOrE, ArePoints, AreSpanCuts}
pub use Rattle.pg_gf2.specs.Prelude.{AreSpanTrees, AreWithin, Body, Cert, Claim, Class, Cuts}
pub use Rattle.pg_gf2.specs.Prelude.{FinSet, ForcesBy, IsBase, IsBelow, IsBody, IsClaim, IsFree}
pub use Rattle.pg_gf2.specs.Prelude.{IsGrown, IsNode, IsOfVersion, IsPlace, IsSpan, IsSpanBridge}
pub use Rattle.pg_gf2.specs.Prelude.{IsTurn, IsWithin, IsWithinLimits, Matroid, Node, One, Position}
pub use Rattle.pg_gf2.specs.Prelude.{ShareNone, Side, Trees, Version, Win, X, Y, below, bit_at}
pub use Rattle.pg_gf2.specs.Prelude.{both, circuit, class_claims, contains, contains-empty, empty}
pub use Rattle.pg_gf2.specs.Prelude.{find, has_body, insert, is_free, kept, left_without, minus}
pub use Rattle.pg_gf2.specs.Prelude.{named, nat_cmp, node_at, node_count, plus, range_with_len}
pub use Rattle.pg_gf2.specs.Prelude.{remove, set_claim, sets_body, vec_capacity, vec_len, w128}
pub use Rattle.pg_gf2.specs.Prelude.{xor_assoc, xor_self, xor_zero_r}
unfoldable pub use Rattle.pg_gf2.specs.Prelude.{either, free_with_e, outside, swapped}
pub use Rattle.pg_base.proofs.BelowLemmas.{below_from, below_in, below_none, below_out, below_parts}
pub use Rattle.pg_base.proofs.BelowLemmas.{same_sets}
pub use Rattle.pg_base.proofs.PointSetLaws.{contains-remove_minus, insert-remove, remove-old}
pub use Rattle.pg_base.proofs.PointSetLaws.{remove-other, remove-self}
pub use Rattle.pg_base.proofs.SetLemmas.{either_cases, either_left, either_right, minus_from}
pub use Rattle.pg_base.proofs.SetLemmas.{minus_parts, minus_same, minus_self, outside_from}
pub use Rattle.pg_base.proofs.SetLemmas.{outside_parts, plus_cases, plus_new, plus_old, plus_same}
pub use Rattle.pg_exchange.proofs.ForestLemmas.{IsBase-apart, IsGrown-add, IsGrown-begin}
pub use Rattle.pg_exchange.proofs.ForestLemmas.{IsGrown-skip, spanned-apart}
pub use Rattle.pg_exchange.proofs.Tests.{emptied, of_either, of_outside, with_point, without_point}
pub use Rattle.pg_graph.proofs.Bases.{circuit_by, circuit_in}
pub use Rattle.pg_graph.proofs.Swap.{IsBase-swap, spans_mono}
pub use Rattle.pg_lehman.proofs.SpanClasses.{SpanSetsHold-class, SpanSetsHold-decided, elements-e}
pub use Rattle.pg_switch.proofs.Finding.{first_below, none_below}
pub use Rattle.std.proofs.Math.Path.{ap₂}
pub use Rattle.std.proofs.lemmas.Bool.{and_from, and_parts, both_ways, cases_Bool, cases_eq}
pub use Rattle.std.proofs.lemmas.Bool.{cases_lt, cond-false, cond-true, eq-eqb, false_from_ne_true}
pub use Rattle.std.proofs.lemmas.Bool.{lt-ltb, ne_eqb, not-true, not_from_false, or_cases}
pub use Rattle.std.proofs.lemmas.List.{drop_all, get_or_default, length-append}
pub use Rattle.std.proofs.lemmas.List.Elements.{All-cons, All-get_or, All-head, All-nil, All-push}
pub use Rattle.std.proofs.lemmas.List.Elements.{All-same, All-tail, All-weaker}
pub use Rattle.std.proofs.lemmas.Nat.{xor_comm}
pub use Rattle.std.proofs.lemmas.Nat.Bits.{bit_at-lt, bit_at-trailing_zeros, bit_at_xor}
pub use Rattle.std.proofs.lemmas.Nat.Bits.{shr_and_one}
pub use Rattle.std.proofs.lemmas.Option.{none-some, slice_get_read}
pub use Rattle.std.proofs.lemmas.Result.{IfOk-weaker}
