-- What the definitions of this crate name of std and of the crates below.
pub use Rattle.pg_base.specs.declared.goal.Goal.{Goal}
pub use Rattle.pg_base.specs.declared.kind.Kind.TheVariants.{Switching}
pub use Rattle.pg_base.specs.declared.score.Score.{Score}
pub use Rattle.pg_base.specs.declared.side.Side.{Side}
pub use Rattle.pg_base.specs.declared.side.Side.TheVariants.{X, Y}
pub use Rattle.pg_board.specs.Board.{View}
pub use Rattle.pg_cert.specs.Node.{position_of}
pub use Rattle.pg_cert.specs.Valid.{IsNodeOf}
pub use Rattle.pg_cert.specs.declared.node.Body.{Body}
pub use Rattle.pg_cert.specs.declared.node.Body.TheVariants.{Cuts, Move, Over, Pairs, Potential}
pub use Rattle.pg_cert.specs.declared.node.Body.TheVariants.{Threat, Trees, Weaker}
pub use Rattle.pg_cert.specs.declared.node.Node.{Node}
pub use Rattle.pg_cert.specs.declared.reply.Reply.{Reply}
pub use Rattle.pg_game.specs.Decided.{IsQuestion, answer_for, claimed_goal, claimer, decided}
pub use Rattle.pg_game.specs.Game.{IsPosition, after, is_over, lines_of, point_count}
unfoldable pub use Rattle.pg_game.specs.Game.{free_points}
pub use Rattle.pg_game.specs.Position.{is_free}
pub use Rattle.pg_game.specs.PositionLemmas.{equal_positions, equal_positions-decides}
pub use Rattle.pg_game.specs.Settled.{is_answer, is_listed, settled}
unfoldable pub use Rattle.pg_game.specs.Settled.{by_moves}
pub use Rattle.pg_game.specs.declared.game.Game.{Game}
pub use Rattle.pg_game.specs.declared.position.Position.{Position}
pub use Rattle.pg_leaf.specs.At.{IsAt}
pub use Rattle.pg_leaf.specs.Leaf.{IsLeaf, criterion_of, first_criterion}
pub use Rattle.pg_leaf.specs.Sound.{BodyHolds, NodesHold}
pub use Rattle.pg_match.specs.Cache.{Cache, Fits}
pub use Rattle.std.specs.List.{All, Contains, count_by, filter, list_all, list_any, range_with_len}
pub use Rattle.std.specs.List.{sum_by}
pub use Rattle.std.specs.Option.{is_none}
