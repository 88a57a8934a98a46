-- What the definitions of this crate name of std and of the crates below.
pub use Rattle.pg_base.specs.declared.goal.Goal.{Goal}
pub use Rattle.pg_base.specs.declared.goal.Goal.TheVariants.{Win}
pub use Rattle.pg_base.specs.declared.kind.Kind.{Kind}
pub use Rattle.pg_base.specs.declared.kind.Kind.TheVariants.{AvoiderEnforcer, MakerBreaker}
pub use Rattle.pg_base.specs.declared.kind.Kind.TheVariants.{MakerMaker, Switching}
pub use Rattle.pg_base.specs.declared.score.Score.{Score}
pub use Rattle.pg_base.specs.declared.score.Score.TheVariants.{Draw, XWins, YWins}
pub use Rattle.pg_base.specs.declared.side.Side.{Side}
pub use Rattle.pg_base.specs.declared.side.Side.TheVariants.{X, Y}
pub use Rattle.pg_cert.specs.Limits.{ArePoints, IsBody, IsClaim, IsOfVersion, IsWithinLimits}
pub use Rattle.pg_cert.specs.Limits.{has_body, node_count}
pub use Rattle.pg_cert.specs.Node.{position_of}
pub use Rattle.pg_cert.specs.Valid.{AreEdgeSets, EndsRight, FollowMoves, HasCuts, HasPairs}
pub use Rattle.pg_cert.specs.Valid.{HasPotential, HasThreat, HasTrees, HasTurn, IsValid}
pub use Rattle.pg_cert.specs.Valid.{IsValidClaim, NamesEarlier, TakesFree, is_allowed, with_e_named}
pub use Rattle.pg_cert.specs.declared.cert.Cert.{Cert}
pub use Rattle.pg_cert.specs.declared.cert.Claim.{Claim}
pub use Rattle.pg_cert.specs.declared.cert.Version.TheVariants.{One}
pub use Rattle.pg_cert.specs.declared.node.Body.{Body}
pub use Rattle.pg_cert.specs.declared.node.Body.TheVariants.{Cuts, Trees}
pub use Rattle.pg_cert.specs.declared.node.Node.{Node}
pub use Rattle.pg_game.specs.Decided.{claimed_goal, claimer, decided}
pub use Rattle.pg_game.specs.Fit.{is_switching}
pub use Rattle.pg_game.specs.Game.{IsPosition, free_points, point_count, start, with_turn}
pub use Rattle.pg_game.specs.Settled.{IsOpenTable, IsTable}
pub use Rattle.pg_game.specs.Trees.{AreFreeEdges, AreFreeWithE, CutsHold, CutsHoldOn, TreesHold}
pub use Rattle.pg_game.specs.Trees.{TreesHoldOn}
pub use Rattle.pg_game.specs.Value.{Forces, reaches, value}
pub use Rattle.pg_game.specs.declared.game.Game.{Game}
pub use Rattle.pg_game.specs.declared.position.Position.{Position}
pub use Rattle.pg_lehman.specs.Sets.{SetsHold}
pub use Rattle.pg_pns.specs.Expanded.{Expanded, IsListed}
pub use Rattle.pg_pns.specs.Found.{IsAnswer, IsClaimOf, IsWorkOf}
pub use Rattle.pg_pns.specs.Reachable.{IsReachable}
pub use Rattle.std.specs.FinSet.{FinSet, contains, insert, remove}
pub use Rattle.std.specs.List.{All, Contains}
pub use Rattle.std.specs.Ordering.{nat_cmp}
