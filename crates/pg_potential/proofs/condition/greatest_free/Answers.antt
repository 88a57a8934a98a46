use Rattle.std.proofs.Common.{◌≡◌, get_or, sym, ◌∙◌, arith}
use Rattle.pg_potential.proofs.Common.{is_free, running-none, running-next, running-all}
use Rattle.pg_potential.proofs.Common.{few_points-lines}
use Rattle.pg_potential.proofs.Raised.{weight-raised}
use Rattle.pg_potential.proofs.condition.greatest_free.Goals.{then-weight-greatest}
use Rattle.pg_potential.proofs.condition.greatest_free.Goals.{else-weight-greatest}
use Rattle.pg_potential.proofs.condition.greatest_free.Goals as goal

pub loop-v-init : goal.loop-v-init
loop-v-init c = sym (running-none (is_free c.args.p.now) (λ v. get_or c.args.points.now v 0))

pub free_weight-weight-requires-clause-small : goal.free_weight-weight-requires-clause-small
free_weight-weight-requires-clause-small c = omega (
  arith,
  c.loop-v-test.true,
  c.points-v-end.ensures.count,
  few_points-lines c.args.g.now c.requires.lines,
)

pub loop-v-preserved : goal.loop-v-preserved
loop-v-preserved c =
    let next = running-next (is_free c.args.p.now) (λ v. get_or c.args.points.now v 0) c.loop-v.v in
    let raised = weight-raised (is_free c.args.p.now c.loop-v.v) c.loop-v.greatest
    (get_or c.args.points.now c.loop-v.v 0) in
    elim c.if-weight-greatest.branch [
      | then-weight-greatest w ↦ omega (
        arith,
        next,
        raised,
        c.loop-v.invariant,
        c.free_weight-weight.ensures,
        w.greatest-is,
        w.if-weight-greatest.true,
      )
      | else-weight-greatest w ↦ omega (
        arith,
        next,
        raised,
        c.loop-v.invariant,
        c.free_weight-weight.ensures,
        w.greatest-is,
        w.if-weight-greatest.false,
      )
    ]

pub returns : goal.returns
returns c =
    let end : c.loop-v.v ≡ c.points-v-end.result =
    omega (arith, c.loop-v-test.false, c.loop-v.auto.v-end) in
    c.loop-v.invariant
    ∙ running-all c.args.g.now c.args.p.now (λ v. get_or c.args.points.now v 0) c.loop-v.v
    (end ∙ c.points-v-end.ensures.count)
