-- What the proofs of this crate name of std and of the crates below.
pub use Rattle.pg_lehman.specs.Prelude.{AreBases, AreCuts, AreFree, AreFreeOrE, AreSpanCuts}
pub use Rattle.pg_lehman.specs.Prelude.{AreSpanTrees, AreTrees, CutsHold, CutsHoldOn, Draw, FinSet}
pub use Rattle.pg_lehman.specs.Prelude.{Game, IsBase, IsBelow, IsCuts, IsLeast, IsMoved, IsPlace}
pub use Rattle.pg_lehman.specs.Prelude.{IsReached, IsSettled, IsShift, IsSpan, IsTrees, IsWithin}
pub use Rattle.pg_lehman.specs.Prelude.{LeadsFrom, Matroid, Position, Side, TreesHold, TreesHoldOn}
pub use Rattle.pg_lehman.specs.Prelude.{Win, X, XWins, Y, YWins, below, bias_of, both, class_by}
pub use Rattle.pg_lehman.specs.Prelude.{contains, contains-empty, either, empty, graph_matroid}
pub use Rattle.pg_lehman.specs.Prelude.{insert, kept, nat_cmp, outside, point_count, span_rules}
pub use Rattle.pg_lehman.specs.Prelude.{with_turn}
unfoldable pub use Rattle.pg_lehman.specs.Prelude.{class_of, elements_of, plus}
pub use Rattle.pg_base.proofs.SetLemmas.{both_from, both_parts, either_cases, either_left}
pub use Rattle.pg_base.proofs.SetLemmas.{either_right, find_below, outside_from, outside_parts}
pub use Rattle.pg_base.proofs.SetLemmas.{plus_cases, plus_new, plus_old}
pub use Rattle.pg_exchange.proofs.ReachLemmas.{IsLeast-doubled, IsLeast-freed, IsReached-more}
pub use Rattle.pg_exchange.proofs.ReachLemmas.{Leads-elements, begin_both, end_neither, in_some}
pub use Rattle.pg_exchange.proofs.Tests.{of_either, of_outside}
pub use Rattle.std.proofs.lemmas.Bool.{and_from, both_ways, cases_Bool, cases_lt, eq-eqb, eqb-true}
pub use Rattle.std.proofs.lemmas.Bool.{false_from_ne_true, not-true, not_from_false}
