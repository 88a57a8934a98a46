-- What the definitions of this crate name of std and of the crates below.
unfoldable pub use Rattle.pg_base.specs.Sets.{minus}
pub use Rattle.pg_base.specs.declared.kind.Kind.TheVariants.{Switching}
pub use Rattle.pg_base.specs.declared.score.Score.{Score}
pub use Rattle.pg_base.specs.declared.side.Side.{Side}
pub use Rattle.pg_base.specs.declared.side.Side.TheVariants.{X, Y}
pub use Rattle.pg_game.specs.Avoider.{avoider_ends, avoider_limit, avoider_risk}
unfoldable pub use Rattle.pg_game.specs.Avoider.{avoider_holds}
pub use Rattle.pg_game.specs.Class.{class_by}
unfoldable pub use Rattle.pg_game.specs.Class.{class_of}
pub use Rattle.pg_game.specs.Decided.{answer_for, at_least, attack_wins, avoider_can_pair, defender}
pub use Rattle.pg_game.specs.Decided.{defends, has_lines, is_pairable}
unfoldable pub use Rattle.pg_game.specs.Decided.{decided, first_criterion, has_private_pairs}
unfoldable pub use Rattle.pg_game.specs.Decided.{pairs_exist}
pub use Rattle.pg_game.specs.Fit.{AreBelow, is_graph, is_switching}
pub use Rattle.pg_game.specs.Game.{after, all_touched, has_filled, is_filled, is_over, is_touched}
pub use Rattle.pg_game.specs.Game.{lines_of, outcome, point_count, with_turn}
unfoldable pub use Rattle.pg_game.specs.Game.{free_points}
pub use Rattle.pg_game.specs.Judge.{IsMadeForGame}
pub use Rattle.pg_game.specs.Pairs.{breaker_of}
pub use Rattle.pg_game.specs.Position.{is_free, points_of}
pub use Rattle.pg_game.specs.Potential.{IsBaseOf, greatest_weight, is_on, limit, times_counted}
pub use Rattle.pg_game.specs.Potential.{total, weight}
unfoldable pub use Rattle.pg_game.specs.Potential.{potential_holds}
pub use Rattle.pg_game.specs.Settled.{is_answer, is_listed, settled}
unfoldable pub use Rattle.pg_game.specs.Settled.{by_moves}
pub use Rattle.pg_game.specs.Threat.{Filling, Forcing, IsAttack, IsThreatLine, LeadsToLine}
pub use Rattle.pg_game.specs.Threat.{depth_of, has_threat, has_threat_line, is_near, threatens}
pub use Rattle.pg_game.specs.Value.{best, better, value}
pub use Rattle.pg_game.specs.declared.game.Game.{Game}
pub use Rattle.pg_game.specs.declared.position.Position.{Position}
pub use Rattle.std.specs.FinSet.{FinSet, contains}
pub use Rattle.std.specs.List.{All, Contains, filter, list_all, list_any, range_with_len}
pub use Rattle.std.specs.Ordering.{nat_cmp}
