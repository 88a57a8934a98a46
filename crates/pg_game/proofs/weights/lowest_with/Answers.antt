use Rattle.std.proofs.Common.{◌==◌, get_or, unwrap_or, sym, ap, ◌∙◌, arith}
use Rattle.pg_game.proofs.Lowest.{lowest-found, lowest-none}
use Rattle.pg_game.proofs.WeightBounds.{few_points-lines}
use Rattle.pg_game.proofs.weights.lowest_with.Goals as goal

pub has_weight-requires-clause-small : goal.has_weight-requires-clause-small
has_weight-requires-clause-small c = omega (
  arith,
  c.loop-v-test.true,
  c.points-v-end.ensures.count,
  few_points-lines c.args.g.now c.requires.lines,
)

pub returns-then-has_weight : goal.returns-then-has_weight
returns-then-has_weight c =
    sym (ap (λ o. unwrap_or o 0) (lowest-found c.args.g.now c.args.p.now (λ v.
    get_or c.args.points.now v 0 == c.args.weight) c.loop-v.v (omega (
      arith,
      c.loop-v-test.true,
      c.points-v-end.ensures.count,
    )) (sym c.has_weight.ensures ∙ c.if-has_weight.true) c.loop-v.invariant))

pub returns : goal.returns
returns c = sym (ap (λ o. unwrap_or o 0) (lowest-none c.args.g.now c.args.p.now (λ v.
    get_or c.args.points.now v 0 == c.args.weight) (λ w below. c.loop-v.invariant w (omega (
      arith,
      below,
      c.loop-v-test.false,
      c.points-v-end.ensures.count,
    )))))
