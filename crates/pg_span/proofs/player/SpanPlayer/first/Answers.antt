use Rattle.std.proofs.Common.{◌∙◌, None, sym, subst}
use Rattle.pg_span.proofs.Common.{edge_count}
use Rattle.pg_switch.proofs.Seats.{due-first}
use Rattle.pg_span.specs.Plan.{plan_of}
use Rattle.pg_span.specs.Player.{SpanPlay, span_start}
use Rattle.pg_span.specs.Playing.{IsSpanDue}
use Rattle.pg_span.specs.Judge.{connects}
use Rattle.pg_span.specs.Valid.{IsBodyAt}
use Rattle.pg_span.proofs.Keeping.{more}
use Rattle.pg_span.proofs.player.SpanPlayer.first.Goals as goal

pub make_move-requires : goal.make_move-requires
make_move-requires c =
    let a = c.self.inside in
    let g = a.game.now in
    let side = a.claim.now.side in
    subst (λ (play : SpanPlay). IsSpanDue play.game play.side a.position play.plan None)
    c.self.view_is
    (due-first (edge_count g.graph) (connects g.graph) (more g) (span_start g)
    (λ q. IsBodyAt g q side (plan_of a.claim.now.body a.trees)) side a.position a.ending
    c.self.invariant.on c.self.invariant.known (sym (sym c.is_some.ensures ∙ c.if-is_some.false))
    (c.is_same.ensures.0 c.if-not-is_same.false))
