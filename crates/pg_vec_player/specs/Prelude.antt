-- What the definitions of this crate name of std and of the crates below.
pub use Rattle.pg_base.specs.Sets.{IsWithin, below, either, minus, outside}
pub use Rattle.pg_base.specs.Side.{is_same_side, other}
pub use Rattle.pg_base.specs.declared.goal.Goal.TheVariants.{Win}
pub use Rattle.pg_base.specs.declared.score.Score.{Score}
pub use Rattle.pg_base.specs.declared.side.Side.{Side}
pub use Rattle.pg_base.specs.declared.side.Side.TheVariants.{X, Y}
pub use Rattle.pg_cert.specs.declared.cert.Cert.{Cert}
pub use Rattle.pg_cert.specs.declared.cert.Claim.{Claim}
pub use Rattle.pg_cert.specs.declared.node.Body.{Body}
pub use Rattle.pg_cert.specs.declared.node.Body.TheVariants.{Cuts, Move, Over, Pairs, Potential}
pub use Rattle.pg_cert.specs.declared.node.Body.TheVariants.{Threat, Trees, Weaker}
pub use Rattle.pg_cert.specs.declared.node.Node.{Node}
pub use Rattle.pg_game.specs.Judging.{ending_by, judged_by}
pub use Rattle.pg_game.specs.Position.{is_free}
pub use Rattle.pg_game.specs.Rules.{ForcesBy, IsPlayBy, Rules, moved, played_by, reaches}
pub use Rattle.pg_game.specs.declared.position.Position.{Position}
pub use Rattle.pg_gf2.specs.Answers.{VecMove, answer_vector, lost_vector, lowest_free}
pub use Rattle.pg_gf2.specs.Answers.{lowest_needed, lowest_unspanned, plan_without, reply_vector}
unfoldable pub use Rattle.pg_gf2.specs.Answers.{vec_move}
pub use Rattle.pg_gf2.specs.Check.{HasCuts, HasTrees, IsOfSide, IsVecClaimValid, IsVecValid}
pub use Rattle.pg_gf2.specs.Check.{names_sets, with_e_named}
pub use Rattle.pg_gf2.specs.Classes.{at_turn, vector_rules, with_target}
pub use Rattle.pg_gf2.specs.Vectors.{vector_spans}
pub use Rattle.pg_gf2.specs.declared.game.VecGame.{VecGame}
pub use Rattle.pg_gf2.specs.declared.plan.VecPlan.{VecPlan}
pub use Rattle.pg_graph.specs.Span.{IsSpan}
pub use Rattle.pg_switch.specs.Claims.{AreFree, AreFreeOrE, AreSpanCuts, AreSpanSets, AreSpanTrees}
pub use Rattle.pg_switch.specs.Claims.{IsPlace, kept, left_without}
pub use Rattle.pg_switch.specs.Seat.{HeldUntilReply, IsDue, IsOnPlan}
pub use Rattle.std.specs.FinSet.{FinSet, contains, difference, empty, remove, union}
pub use Rattle.std.specs.Ordering.{nat_cmp}
