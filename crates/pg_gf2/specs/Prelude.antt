-- What the definitions of this crate name of std and of the crates below.
pub use Rattle.pg_base.specs.Points.{AreBelow, AreWithin, ShareNone}
pub use Rattle.pg_base.specs.Sets.{IsBelow, IsWithin, below, both, minus, plus}
unfoldable pub use Rattle.pg_base.specs.Sets.{either, outside}
pub use Rattle.pg_base.specs.declared.goal.Goal.TheVariants.{Win}
pub use Rattle.pg_base.specs.declared.side.Side.{Side}
pub use Rattle.pg_base.specs.declared.side.Side.TheVariants.{X, Y}
pub use Rattle.pg_cert.specs.Limits.{ArePoints, IsBody, IsClaim, IsNode, IsOfVersion, IsTurn}
pub use Rattle.pg_cert.specs.Limits.{IsWithinLimits, has_body, node_count}
pub use Rattle.pg_cert.specs.declared.cert.Cert.{Cert}
pub use Rattle.pg_cert.specs.declared.cert.Claim.{Claim}
pub use Rattle.pg_cert.specs.declared.cert.Version.{Version}
pub use Rattle.pg_cert.specs.declared.cert.Version.TheVariants.{One}
pub use Rattle.pg_cert.specs.declared.node.Body.{Body}
pub use Rattle.pg_cert.specs.declared.node.Body.TheVariants.{Cuts, Trees}
pub use Rattle.pg_cert.specs.declared.node.Node.{Node}
pub use Rattle.pg_exchange.specs.Forest.{IsApart, IsFree, IsGrown}
pub use Rattle.pg_exchange.specs.Matroid.{Matroid}
pub use Rattle.pg_game.specs.Position.{is_free}
pub use Rattle.pg_game.specs.Rules.{ForcesBy, Rules, value_by}
pub use Rattle.pg_game.specs.declared.position.Position.{Position}
pub use Rattle.pg_graph.specs.Span.{IsBase, IsSpan, circuit}
unfoldable pub use Rattle.pg_graph.specs.Span.{swapped}
pub use Rattle.pg_lehman.specs.ClassClaims.{class_claims, node_at, set_claim, sets_body}
pub use Rattle.pg_lehman.specs.Sets.{named}
pub use Rattle.pg_lehman.specs.SpanSets.{SpanSetsHold}
unfoldable pub use Rattle.pg_lehman.specs.SpanSets.{free_with_e}
pub use Rattle.pg_lehman.specs.declared.class.Class.{Class}
pub use Rattle.pg_switch.specs.Claims.{AreFree, AreFreeOrE, AreSpanCuts, AreSpanTrees, IsPlace}
pub use Rattle.pg_switch.specs.Claims.{IsSpanBridge, kept, left_without, span_rules}
pub use Rattle.std.specs.FinSet.{FinSet, contains, contains-empty, empty, insert, remove}
pub use Rattle.std.specs.Int.{bit_at, w128}
pub use Rattle.std.specs.Int.Bits.{xor_assoc, xor_self, xor_zero_l, xor_zero_r}
pub use Rattle.std.specs.List.{All, find, range_with_len}
pub use Rattle.std.specs.Ordering.{nat_cmp}
pub use Rattle.std.specs.Vec.{vec_capacity, vec_len}
