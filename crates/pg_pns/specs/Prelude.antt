-- What the definitions of this crate name of std and of the crates below.
pub use Rattle.pg_base.specs.declared.goal.Goal.{Goal}
pub use Rattle.pg_base.specs.declared.kind.Kind.TheVariants.{Switching}
pub use Rattle.pg_base.specs.declared.score.Score.{Score}
pub use Rattle.pg_base.specs.declared.side.Side.{Side}
pub use Rattle.pg_base.specs.declared.side.Side.TheVariants.{X, Y}
pub use Rattle.pg_board.specs.Board.{Stand, View}
pub use Rattle.pg_cert.specs.Limits.{IsClaim, IsNode, IsOfVersion, IsTurn, has_body}
pub use Rattle.pg_cert.specs.Node.{position_of}
pub use Rattle.pg_cert.specs.Valid.{HasWeaker, IsInGame, IsValidClaim, Passes}
pub use Rattle.pg_cert.specs.declared.cert.Claim.{Claim}
pub use Rattle.pg_cert.specs.declared.cert.Version.TheVariants.{One}
pub use Rattle.pg_cert.specs.declared.limits.TheConstants.{MAX_CLAIM_NODES}
pub use Rattle.pg_cert.specs.declared.node.Body.{Body}
pub use Rattle.pg_cert.specs.declared.node.Body.TheVariants.{Cuts, Move, Over, Pairs, Potential}
pub use Rattle.pg_cert.specs.declared.node.Body.TheVariants.{Threat, Trees, Weaker}
pub use Rattle.pg_cert.specs.declared.node.Node.{Node}
pub use Rattle.pg_game.specs.Decided.{answer_for, claimed_goal, claimer, decided}
pub use Rattle.pg_game.specs.Game.{IsPosition, after, bias_of, is_over, lines_of, point_count}
pub use Rattle.pg_game.specs.Game.{start, with_turn}
unfoldable pub use Rattle.pg_game.specs.Game.{free_points}
pub use Rattle.pg_game.specs.Position.{is_free}
pub use Rattle.pg_game.specs.PositionLemmas.{equal_positions, equal_positions-decides}
pub use Rattle.pg_game.specs.Settled.{IsOpenTable, IsOpened, IsTable, is_answer, is_listed, settled}
unfoldable pub use Rattle.pg_game.specs.Settled.{by_moves}
pub use Rattle.pg_game.specs.declared.game.Game.{Game}
pub use Rattle.pg_game.specs.declared.position.Position.{Position}
pub use Rattle.pg_leaf.specs.At.{IsAt}
pub use Rattle.pg_leaf.specs.Leaf.{criterion_of, first_criterion}
pub use Rattle.pg_leaf.specs.Pruned.{AreMarked, IsMoved, IsPruned, IsUsed, Renumbers}
pub use Rattle.pg_leaf.specs.Sound.{BodyHolds, NodesHold}
pub use Rattle.pg_match.specs.Cache.{Cache, Fits}
pub use Rattle.std.specs.List.{All, Contains, count_by, filter, list_all, list_any, range_with_len}
pub use Rattle.std.specs.List.{sum_by}
pub use Rattle.std.specs.Map.{keys_of, lookup}
pub use Rattle.std.specs.Option.{IfNone, is_none, is_some}
pub use Rattle.std.specs.Vec.{with_items}
