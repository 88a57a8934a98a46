-- What the definitions of this crate name of std and of the crates below.
pub use Rattle.pg_base.specs.Points.{AreBelow}
pub use Rattle.pg_base.specs.Side.{is_same_side, other}
pub use Rattle.pg_base.specs.declared.goal.Goal.{Goal}
pub use Rattle.pg_base.specs.declared.goal.Goal.TheVariants.{Win}
pub use Rattle.pg_base.specs.declared.kind.Kind.{Kind}
pub use Rattle.pg_base.specs.declared.kind.Kind.TheVariants.{AvoiderEnforcer, MakerBreaker}
pub use Rattle.pg_base.specs.declared.kind.Kind.TheVariants.{MakerMaker, Switching}
pub use Rattle.pg_base.specs.declared.limits.TheConstants.{MAX_MEMBERS}
pub use Rattle.pg_base.specs.declared.pair.Pair.{Pair}
pub use Rattle.pg_base.specs.declared.score.Score.{Score}
pub use Rattle.pg_base.specs.declared.side.Side.{Side}
pub use Rattle.pg_base.specs.declared.side.Side.TheVariants.{X, Y}
pub use Rattle.pg_cert.specs.Limits.{IsClaim, IsWithinLimits}
pub use Rattle.pg_cert.specs.Node.{position_of}
pub use Rattle.pg_cert.specs.OwnMove.{OwnMove, Standing, arrives, cuts_point, played_point}
pub use Rattle.pg_cert.specs.OwnMove.{potential_point, replied_by, settled, settles_at, settles_by}
pub use Rattle.pg_cert.specs.OwnMove.{stays, stays_with_cuts, stays_with_trees, trees_point}
unfoldable pub use Rattle.pg_cert.specs.OwnMove.{own_move, replied, settled_within}
pub use Rattle.pg_cert.specs.Valid.{EndsRight, FollowMoves, FollowsMove, HasCuts, HasPairs}
pub use Rattle.pg_cert.specs.Valid.{HasPotential, HasThreat, HasTrees, HasTurn, HasWeaker, IsInGame}
pub use Rattle.pg_cert.specs.Valid.{IsNoWorseThanNode, IsNodeOf, IsOwed, IsSound, IsValid}
pub use Rattle.pg_cert.specs.Valid.{IsValidClaim, NamesEarlier, Passes, PotentialFits, TakesFree}
pub use Rattle.pg_cert.specs.Valid.{is_allowed, pairs_fit, shows_cuts, shows_defence, shows_trees}
pub use Rattle.pg_cert.specs.Valid.{with_e_named}
pub use Rattle.pg_cert.specs.declared.cert.Cert.{Cert}
pub use Rattle.pg_cert.specs.declared.cert.Claim.{Claim}
pub use Rattle.pg_cert.specs.declared.node.Body.{Body}
pub use Rattle.pg_cert.specs.declared.node.Body.TheVariants.{All, Cuts, Move, Over, Pairs}
pub use Rattle.pg_cert.specs.declared.node.Body.TheVariants.{Potential, Threat, Trees, Weaker}
pub use Rattle.pg_cert.specs.declared.node.Node.{Node}
pub use Rattle.pg_cert.specs.declared.reply.Reply.{Reply}
pub use Rattle.pg_game.specs.Avoider.{AvoiderHolds, avoider_answer}
pub use Rattle.pg_game.specs.Game.{IsPosition, after, bias_of, free_points, is_full, is_over}
pub use Rattle.pg_game.specs.Game.{outcome, point_count, start, with_turn}
pub use Rattle.pg_game.specs.Judge.{HasJoiner, IsMadeForGame, judged_move}
pub use Rattle.pg_game.specs.Pairs.{HoldsPair, PairsHold, pairs_answer}
pub use Rattle.pg_game.specs.Play.{IsLegalPlay, played}
pub use Rattle.pg_game.specs.Position.{is_free}
pub use Rattle.pg_game.specs.Potential.{PotentialHolds, potential_answer}
pub use Rattle.pg_game.specs.Threat.{IsAttack, IsAttacking, IsThreatLine, LeadsToLine, has_threat}
pub use Rattle.pg_game.specs.Threat.{may_attack, threatens}
pub use Rattle.pg_game.specs.Trees.{Answered, AreCuts, AreTrees, CutsHold, CutsHoldOn, TreesHold}
pub use Rattle.pg_game.specs.Trees.{TreesHoldOn, with_set}
pub use Rattle.pg_game.specs.Value.{Forces, reaches, rules_of}
pub use Rattle.pg_game.specs.Weaker.{IsNoWorse, free_or_lowest}
pub use Rattle.pg_game.specs.declared.field.Field.{Field}
pub use Rattle.pg_game.specs.declared.field.Field.TheVariants.{Lines}
pub use Rattle.pg_game.specs.declared.game.Game.{Game}
pub use Rattle.pg_game.specs.declared.position.Position.{Position}
pub use Rattle.pg_graph.specs.Joiner.{Room}
pub use Rattle.pg_pairing.specs.Rest.{ArePairsOf, HeldBefore, KeepsRest, MayClaim, RestHolds, rest}
pub use Rattle.pg_switch.specs.Replies.{HeldUntil, IsCutsAnswer, IsSwitchingTurn, IsTreesAnswer}
pub use Rattle.pg_switch.specs.Replies.{LeavesHeld}
pub use Rattle.pg_switch.specs.Seat.{IsReachedBy}
pub use Rattle.std.specs.Coded.{Coded-set, coded_bool, coded_list, coded_ℕ}
pub use Rattle.std.specs.FinSet.{FinSet}
pub use Rattle.std.specs.List.{list_any}
pub use Rattle.std.specs.Option.{option_or}
pub use Rattle.std.specs.Ordering.{nat_cmp}
