-- What the definitions of this crate name of std and of the crates below.
pub use Rattle.pg_base.specs.Sets.{IsMarked, count, minus}
pub use Rattle.pg_base.specs.declared.goal.Goal.{Goal}
pub use Rattle.pg_base.specs.declared.kind.Kind.TheVariants.{AvoiderEnforcer, MakerBreaker}
pub use Rattle.pg_base.specs.declared.kind.Kind.TheVariants.{MakerMaker, Switching}
pub use Rattle.pg_base.specs.declared.pair.Pair.{Pair}
pub use Rattle.pg_base.specs.declared.score.Score.{Score}
pub use Rattle.pg_base.specs.declared.side.Side.{Side}
pub use Rattle.pg_board.specs.Board.{View, is_live_with, line_at}
unfoldable pub use Rattle.pg_board.specs.Board.{live_lines, live_with}
pub use Rattle.pg_cert.specs.Limits.{IsBody, IsPair, has_body}
pub use Rattle.pg_cert.specs.Node.{position_of}
pub use Rattle.pg_cert.specs.Valid.{EndsRight, FollowMoves, HasCuts, HasPairs, HasPotential}
pub use Rattle.pg_cert.specs.Valid.{HasThreat, HasTrees, HasTurn, IsNodeOf, NamesEarlier}
pub use Rattle.pg_cert.specs.Valid.{PotentialFits, TakesFree, is_allowed, pairs_fit, shows_defence}
pub use Rattle.pg_cert.specs.declared.limits.TheConstants.{MAX_CLAIM_NODES}
pub use Rattle.pg_cert.specs.declared.node.Body.{Body}
pub use Rattle.pg_cert.specs.declared.node.Body.TheVariants.{Cuts, Move, Over, Pairs, Potential}
pub use Rattle.pg_cert.specs.declared.node.Body.TheVariants.{Threat, Trees, Weaker}
pub use Rattle.pg_cert.specs.declared.node.Node.{Node}
pub use Rattle.pg_cert.specs.declared.reply.Reply.{Reply}
pub use Rattle.pg_game.specs.Decided.{Criterion, IsQuestion, answer_by, answer_for, at_least}
pub use Rattle.pg_game.specs.Decided.{avoider_can_pair, by_end, claimed_goal, claimer, defender}
pub use Rattle.pg_game.specs.Decided.{defends, has_lines, lines_meant}
unfoldable pub use Rattle.pg_game.specs.Decided.{attack_wins, decided, first_criterion}
unfoldable pub use Rattle.pg_game.specs.Decided.{has_private_pairs, pairs_exist}
pub use Rattle.pg_game.specs.Decided.Criterion.{ByEnd, ByPairs, ByPotential, ByThreat}
pub use Rattle.pg_game.specs.Game.{IsPosition, after, has_filled, is_over, is_touched, lines_of}
pub use Rattle.pg_game.specs.Game.{outcome_by, point_count, short_joins}
unfoldable pub use Rattle.pg_game.specs.Game.{free_points, outcome}
pub use Rattle.pg_game.specs.Pairs.{PairsHold, breaker_of}
pub use Rattle.pg_game.specs.Position.{is_free, points_of}
pub use Rattle.pg_game.specs.Threat.{IsThreatLine, LeadsToLine, may_attack}
pub use Rattle.pg_game.specs.declared.bounds.TheConstants.{MAX_POINTS}
pub use Rattle.pg_game.specs.declared.game.Game.{Game}
pub use Rattle.pg_game.specs.declared.position.Position.{Position}
pub use Rattle.std.specs.List.{All, Contains, count_by, find, list_any, range_with_len}
