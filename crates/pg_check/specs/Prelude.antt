-- What the definitions of this crate name of std and of the crates below.
pub use Rattle.pg_base.specs.Points.{AreBelow, AreWithin, ShareNone}
pub use Rattle.pg_base.specs.Side.{other}
unfoldable pub use Rattle.pg_base.specs.Words.{words_of}
pub use Rattle.pg_base.specs.declared.goal.Goal.{Goal}
pub use Rattle.pg_base.specs.declared.kind.Kind.{Kind}
pub use Rattle.pg_base.specs.declared.kind.Kind.TheVariants.{AvoiderEnforcer, MakerBreaker}
pub use Rattle.pg_base.specs.declared.kind.Kind.TheVariants.{MakerMaker, Switching}
pub use Rattle.pg_base.specs.declared.side.Side.{Side}
pub use Rattle.pg_base.specs.declared.side.Side.TheVariants.{X, Y}
pub use Rattle.pg_cert.specs.Limits.{IsClaim, IsNode, IsTurn, IsWithinLimits}
pub use Rattle.pg_cert.specs.Node.{position_of}
pub use Rattle.pg_cert.specs.NodeFault.{fault_number}
pub use Rattle.pg_cert.specs.Parts.{BeginCert, all_parts, claim_parts, parts_of}
pub use Rattle.pg_cert.specs.Valid.{AreEdgeSets, AreSoundBefore, EndsRight, FollowMoves}
pub use Rattle.pg_cert.specs.Valid.{FollowsMove, HasCuts, HasPairs, HasPotential, HasThreat}
pub use Rattle.pg_cert.specs.Valid.{HasTrees, HasTurn, HasWeaker, IsFirstFault, IsInGame}
pub use Rattle.pg_cert.specs.Valid.{IsLeastFault, IsNodeOf, IsOwed, IsSound, IsValid, IsValidClaim}
pub use Rattle.pg_cert.specs.Valid.{NamesEarlier, Owes, Passes, PotentialFits, TakesFree}
pub use Rattle.pg_cert.specs.Valid.{allows_weaker, is_allowed, pairs_fit, shows_cuts, shows_defence}
pub use Rattle.pg_cert.specs.Valid.{shows_trees, with_e_named}
pub use Rattle.pg_cert.specs.declared.cert.Cert.{Cert}
pub use Rattle.pg_cert.specs.declared.cert.Claim.{Claim}
pub use Rattle.pg_cert.specs.declared.node.Body.{Body}
pub use Rattle.pg_cert.specs.declared.node.Body.TheVariants.{Cuts, Move, Over, Pairs, Potential}
pub use Rattle.pg_cert.specs.declared.node.Body.TheVariants.{Threat, Trees, Weaker}
pub use Rattle.pg_cert.specs.declared.node.Node.{Node}
pub use Rattle.pg_cert.specs.declared.node_fault.NodeFault.{NodeFault}
pub use Rattle.pg_cert.specs.declared.part.Part.{Part}
pub use Rattle.pg_cert.specs.declared.reply.Reply.{Reply}
pub use Rattle.pg_game.specs.Game.{IsPosition, after, has_filled, is_filled, is_over, lines_of}
pub use Rattle.pg_game.specs.Game.{outcome, point_count, with_turn}
unfoldable pub use Rattle.pg_game.specs.Game.{free_points}
pub use Rattle.pg_game.specs.Judge.{IsMadeForGame, room_of}
pub use Rattle.pg_game.specs.Position.{is_free, points_of, x_after, y_after}
pub use Rattle.pg_game.specs.Potential.{is_on}
pub use Rattle.pg_game.specs.Threat.{Filling, Forcing, IsAttack, IsThreatLine, LeadsToLine}
pub use Rattle.pg_game.specs.Threat.{has_threat, is_near, may_attack, threatens}
pub use Rattle.pg_game.specs.Trees.{CutsHold, TreesHold}
pub use Rattle.pg_game.specs.Value.{Forces, reaches}
pub use Rattle.pg_game.specs.Weaker.{IsNoWorse}
pub use Rattle.pg_game.specs.declared.game.Game.{Game}
pub use Rattle.pg_game.specs.declared.position.Position.{Position}
pub use Rattle.pg_potential.specs.Marks.{AreFlat, AreMarksOf}
unfoldable pub use Rattle.pg_potential.specs.Marks.{kept}
pub use Rattle.pg_potential.specs.Masks.{AreMasksOf}
pub use Rattle.std.specs.FinSet.{FinSet, contains, insert}
pub use Rattle.std.specs.List.{All, Contains, count_by, filter, list_all, list_any, range_with_len}
pub use Rattle.std.specs.Option.{is_some}
pub use Rattle.std.specs.Ordering.{nat_cmp}
