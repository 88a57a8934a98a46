use Rattle.std.proofs.Common.{not, sym, ◌∙◌, arith}
use Rattle.pg_pairing.proofs.Common.{contains, is_free, free_points, point_count, first_below}
use Rattle.pg_pairing.proofs.Common.{none_below}
use Rattle.pg_pairing.proofs.answers.lowest_outside.Goals as goal

pub returns-then-is_outside : goal.returns-then-is_outside
unfolding free_points
returns-then-is_outside c = sym
    (first_below (λ v. not (contains c.args.points.now v)) (is_free c.args.p.now) c.loop-v.v
    (point_count c.args.g.now) (omega (arith, c.loop-v-test.true, c.points-v-end.ensures.count))
    (sym c.is_outside.ensures ∙ c.if-is_outside.true) c.loop-v.invariant)

pub returns : goal.returns
unfolding free_points
returns c = sym (none_below (λ v. not (contains c.args.points.now v)) (is_free c.args.p.now)
    (point_count c.args.g.now) (λ w below. c.loop-v.invariant w (omega (
      arith,
      below,
      c.loop-v-test.false,
      c.points-v-end.ensures.count,
    ))))
