use Rattle.std.proofs.Common.{◌∙◌, not, ap}
use Rattle.pg_potential.proofs.Common.{contains, count_by, take_all}
use Rattle.pg_potential.proofs.totals.count_free.Goals as goal

pub returns : goal.returns
returns c = c.loop-v.invariant
    ∙ ap (count_by (λ v. not (contains c.args.marked.now v)))
    (take_all c.loop-v.v-index c.args.line.now c.loop-v-test.false)
