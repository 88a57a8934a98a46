use Rattle.std.proofs.Common.{◌∙◌, sym}
use Rattle.pg_span.proofs.Connects.{kept-connects, ending-goes_on, ending-y}
use Rattle.pg_span.proofs.judge.SpanJudge.ending.Goals as goal

pub returns-then-connects-2-clause-ending : goal.returns-then-connects-2-clause-ending
returns-then-connects-2-clause-ending c =
    let g = c.args.g.now in
    ending-goes_on g c.args.p.now (sym c.connects.ensures.joins ∙ c.if-connects.false)
    (sym (kept-connects g c.args.p.now c.all_below.result c.without-left.result c.edge_count.result
    c.edge_count.ensures c.all_below.ensures c.without-left.ensures.members)
    ∙ (sym c.connects-2.ensures.joins ∙ c.if-connects-2.true))

pub returns-else-connects-2-clause-ending : goal.returns-else-connects-2-clause-ending
returns-else-connects-2-clause-ending c =
    let g = c.args.g.now in
    ending-y g c.args.p.now (sym c.connects.ensures.joins ∙ c.if-connects.false)
    (sym (kept-connects g c.args.p.now c.all_below.result c.without-left.result c.edge_count.result
    c.edge_count.ensures c.all_below.ensures c.without-left.ensures.members)
    ∙ (sym c.connects-2.ensures.joins ∙ c.if-connects-2.false))
