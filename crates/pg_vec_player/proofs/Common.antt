-- What the proofs of this crate name of std and of the crates below.
pub use Rattle.pg_vec_player.specs.Prelude.{AreFree, AreFreeOrE, AreSpanCuts, AreSpanTrees, Body}
pub use Rattle.pg_vec_player.specs.Prelude.{Cert, Claim, Cuts, FinSet, HasCuts, HasTrees}
pub use Rattle.pg_vec_player.specs.Prelude.{HeldUntilReply, IsOfSide, IsPlace, IsSpan}
pub use Rattle.pg_vec_player.specs.Prelude.{IsVecClaimValid, IsVecValid, IsWithin, Move, Node, Over}
pub use Rattle.pg_vec_player.specs.Prelude.{Pairs, Position, Potential, Rules, Score, Side, Threat}
pub use Rattle.pg_vec_player.specs.Prelude.{Trees, VecGame, VecMove, VecPlan, Weaker, Win, X, Y}
pub use Rattle.pg_vec_player.specs.Prelude.{answer_vector, contains, difference, either, ending_by}
pub use Rattle.pg_vec_player.specs.Prelude.{kept, left_without, lost_vector, lowest_free}
pub use Rattle.pg_vec_player.specs.Prelude.{lowest_needed, lowest_unspanned, minus, moved}
pub use Rattle.pg_vec_player.specs.Prelude.{names_sets, nat_cmp, other, outside, plan_without}
pub use Rattle.pg_vec_player.specs.Prelude.{reaches, remove, reply_vector, union, vector_rules}
pub use Rattle.pg_vec_player.specs.Prelude.{vector_spans, with_target}
unfoldable pub use Rattle.pg_vec_player.specs.Prelude.{vec_move}
pub use Rattle.pg_base.proofs.BelowLemmas.{below_from, below_parts, same_sets}
pub use Rattle.pg_base.proofs.PointSetLaws.{contains-difference_outside, contains-remove_minus}
pub use Rattle.pg_base.proofs.PointSetLaws.{contains-union_either}
pub use Rattle.pg_switch.proofs.Finding.{find_below-cases, found-bound, free-bound, free-free}
pub use Rattle.std.proofs.lemmas.Bool.{and_from, and_parts, both_ways, cases_Bool}
pub use Rattle.std.proofs.lemmas.Bool.{false_from_ne_true, false≢true, lt-ltb, ltb-true, not-true}
pub use Rattle.std.proofs.lemmas.Bool.{not_from_false, true_from_ne_false}
