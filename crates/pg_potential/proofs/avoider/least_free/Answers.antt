use Rattle.std.proofs.Common.{◌≡◌, ◌^◌, ◌-◌, get_or, sym, ◌∙◌, arith}
use Rattle.pg_potential.proofs.Common.{is_free, few_points-lines}
use Rattle.pg_potential.proofs.Least.{running-none, running-next, running-all}
use Rattle.pg_potential.proofs.avoider.least_free.Goals.{then-weight-least, else-weight-least}
use Rattle.pg_potential.proofs.avoider.least_free.Goals as goal

pub loop-v-init : goal.loop-v-init
loop-v-init c =
    sym (running-none (is_free c.args.p.now) (λ v. get_or c.args.points.now v 0) (2 ^ 128 - 1))

pub weight_if_free-weight-requires-clause-small : goal.weight_if_free-weight-requires-clause-small
weight_if_free-weight-requires-clause-small c = omega (
  arith,
  c.loop-v-test.true,
  c.points-v-end.ensures.count,
  few_points-lines c.args.g.now c.requires.lines,
)

pub loop-v-preserved : goal.loop-v-preserved
loop-v-preserved c =
    let next = running-next (is_free c.args.p.now) (λ v. get_or c.args.points.now v 0)
    (2 ^ 128 - 1) c.loop-v.v in
    elim c.if-weight-least.branch [
      | then-weight-least w ↦ omega (
        arith,
        next,
        c.loop-v.invariant,
        c.weight_if_free-weight.ensures,
        w.least-is,
        w.if-weight-least.true,
      )
      | else-weight-least w ↦ omega (
        arith,
        next,
        c.loop-v.invariant,
        c.weight_if_free-weight.ensures,
        w.least-is,
        w.if-weight-least.false,
      )
    ]

pub returns : goal.returns
returns c =
    let end : c.loop-v.v ≡ c.points-v-end.result =
    omega (arith, c.loop-v-test.false, c.loop-v.auto.v-end) in
    c.loop-v.invariant
    ∙ running-all c.args.g.now c.args.p.now (λ v. get_or c.args.points.now v 0)
    (2 ^ 128 - 1) c.loop-v.v (end ∙ c.points-v-end.ensures.count) c.requires.some_free
    (λ v. omega (arith, c.requires.fit v))
