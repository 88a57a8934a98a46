use Rattle.std.proofs.Common.{◌∙◌, List, None, ap, arith, get_or}
use Rattle.pg_backing.proofs.Known.{known_all, known_more}
use Rattle.pg_backing.specs.Backed.{span_at}
use Rattle.pg_backing.specs.declared.report.Own.TheVariants.{Nothing}
use Rattle.pg_backing.specs.declared.span.Span.{Span}
use Rattle.pg_backing.proofs.backing.spans_of.Goals as goal

pub loop-i-preserved : goal.loop-i-preserved
loop-i-preserved c =
    let g = c.args.game.now in
    let own = get_or c.args.own.now c.loop-i.i Nothing in
    let position = get_or c.args.positions.now c.loop-i.i None in
    known_more g c.args.plan.now c.args.positions.now c.args.own.now c.loop-i.spans.items
    c.push.new.self.items c.loop-i.i c.index-plan-i.result c.span_at-next.result
    c.loop-i-test.true c.index-plan-i.is
    (c.span_at-next.ensures ∙ ap (λ (spans : List Span). span_at g spans own
    c.index-plan-i.result position) c.as_slice.ensures.value)
    c.in_ok-push.ensures.items c.loop-i.invariant

pub returns : goal.returns
returns c = known_all c.args.game.now c.args.plan.now c.args.positions.now c.args.own.now
    c.loop-i.spans.items c.loop-i.i
    (omega (arith, c.loop-i-test.false, c.loop-i.auto.i-end)) c.loop-i.invariant
