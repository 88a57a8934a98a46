use Rattle.std.proofs.Common.{◌<◌, ap, ◌∙◌, arith}
use Rattle.pg_potential.proofs.Common.{weight, few_points-lines}
use Rattle.pg_potential.proofs.condition.weight.Goals as goal

pub bounds-weights_for-from : goal.bounds-weights_for-from
bounds-weights_for-from c =
    omega (arith, c.from.ensures, c.requires.within, few_points-lines c.args.g.now c.requires.lines)

pub returns : goal.returns
returns c =
    let small : c.from.result < 256 = omega (
      arith,
      c.from.ensures,
      c.requires.within,
      few_points-lines c.args.g.now c.requires.lines,
    ) in
    c.weights_for.ensures.points c.from.result small
    ∙ ap (weight c.args.g.now c.args.p.now c.args.side) c.from.ensures
