use Rattle.std.proofs.Common.{◌∙◌, sym, ap, arith}
use Rattle.std.specs.Prelude.{nat_lt}
use Rattle.pg_span.proofs.Common.{contains, false_from_ne_true, both_ways}
use Rattle.pg_span.proofs.Connects.{connects-found, connects-more}
use Rattle.pg_span.proofs.judge.SpanJudge.connects.Goals as goal

pub returns-then-self-clause-joins : goal.returns-then-self-clause-joins
returns-then-self-clause-joins c =
    let g = c.args.g.now in
    connects-found g.graph (contains c.args.set.now) (contains c.all_below-all.result)
    c.crossing.result g.fits.graph (let two = g.fits.some_vertices in omega arith) c.requires.set
    (λ v. c.all_below-all.ensures v ∙ ap (nat_lt v) c.edge_count.ensures)
    (sym c.requires.made.whole ∙ c.if-self.true) c.crossing.ensures.lowest c.crossing.ensures.none
    c.is_none.result c.is_none.ensures

pub returns-else-self-clause-joins : goal.returns-else-self-clause-joins
returns-else-self-clause-joins c =
    let g = c.args.g.now in
    c.if-self.false
    ∙ sym (false_from_ne_true _ (λ on. both_ways _ (sym c.requires.made.whole ∙ c.if-self.false)
    (connects-more g.graph (contains c.args.set.now) c.requires.set on)))
