use Rattle.std.proofs.Common.{◌≡◌, sym, ◌∙◌, arith}
use Rattle.pg_plain.proofs.Common.{is_free, weight, running-none, running-next, running-all}
use Rattle.pg_plain.proofs.Common.{few_points-lines}
use Rattle.pg_plain.proofs.leaves.greatest_weight.Goals.{then-weight-greatest, else-weight-greatest}
use Rattle.pg_plain.proofs.leaves.greatest_weight.Goals as goal

pub loop-v-init : goal.loop-v-init
loop-v-init c =
    sym (running-none (is_free c.args.p.now) (weight c.args.g.now c.args.p.now c.args.side))

pub free_weight-weight-requires : goal.free_weight-weight-requires
free_weight-weight-requires c = omega (
  arith,
  c.loop-v-test.true,
  c.loop-v.auto.v-end,
  c.points-v-end.ensures.count,
  few_points-lines c.args.g.now c.requires,
)

pub loop-v-preserved : goal.loop-v-preserved
loop-v-preserved c =
    let next =
    running-next (is_free c.args.p.now) (weight c.args.g.now c.args.p.now c.args.side) c.loop-v.v in
    elim c.if-weight-greatest.branch [
      | then-weight-greatest w ↦ omega (
        arith,
        next,
        c.loop-v.invariant,
        c.free_weight-weight.ensures,
        w.greatest-is,
        w.if-weight-greatest.true,
      )
      | else-weight-greatest w ↦ omega (
        arith,
        next,
        c.loop-v.invariant,
        c.free_weight-weight.ensures,
        w.greatest-is,
        w.if-weight-greatest.false,
      )
    ]

pub returns : goal.returns
returns c =
    let end : c.loop-v.v ≡ c.points-v-end.result =
    omega (arith, c.loop-v-test.false, c.loop-v.auto.v-end) in
    c.loop-v.invariant
    ∙ running-all c.args.g.now c.args.p.now
    (weight c.args.g.now c.args.p.now c.args.side) c.loop-v.v (end ∙ c.points-v-end.ensures.count)
