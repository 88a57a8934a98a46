-- What the definitions of this crate name of std and of the crates below.
pub use Rattle.pg_base.specs.Sets.{IsBelow, IsWithin, below, both, either, outside}
unfoldable pub use Rattle.pg_base.specs.Sets.{plus}
pub use Rattle.pg_base.specs.declared.goal.Goal.TheVariants.{Win}
pub use Rattle.pg_base.specs.declared.score.Score.TheVariants.{Draw, XWins, YWins}
pub use Rattle.pg_base.specs.declared.side.Side.{Side}
pub use Rattle.pg_base.specs.declared.side.Side.TheVariants.{X, Y}
pub use Rattle.pg_cert.specs.declared.cert.Version.TheVariants.{One}
pub use Rattle.pg_exchange.specs.Chain.{AreBases, IsLeast, IsMoved, IsSettled, IsShift, LeadsFrom}
pub use Rattle.pg_exchange.specs.Forest.{graph_matroid}
unfoldable pub use Rattle.pg_exchange.specs.Forest.{elements_of}
pub use Rattle.pg_exchange.specs.Matroid.{Matroid}
pub use Rattle.pg_game.specs.Class.{class_by}
unfoldable pub use Rattle.pg_game.specs.Class.{class_of}
pub use Rattle.pg_game.specs.Game.{bias_of, point_count, with_turn}
pub use Rattle.pg_game.specs.Trees.{AreCuts, AreTrees, CutsHold, CutsHoldOn, TreesHold, TreesHoldOn}
pub use Rattle.pg_game.specs.declared.game.Game.{Game}
pub use Rattle.pg_game.specs.declared.position.Position.{Position}
pub use Rattle.pg_graph.specs.Span.{IsBase, IsCuts, IsReached, IsSpan, IsTrees}
pub use Rattle.pg_switch.specs.Claims.{AreFree, AreFreeOrE, AreSpanCuts, AreSpanTrees, IsPlace}
pub use Rattle.pg_switch.specs.Claims.{kept, span_rules}
pub use Rattle.std.specs.FinSet.{FinSet, contains, contains-empty, empty, insert, remove}
pub use Rattle.std.specs.Ordering.{nat_cmp}
