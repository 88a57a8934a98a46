use Rattle.std.proofs.Common.{arith}
use Rattle.pg_game.proofs.WeightBounds.{IsBaseOf-bias, total-few}
use Rattle.pg_potential.proofs.condition.weights_for.Goals as goal

pub weigh-requires : goal.weigh-requires
weigh-requires c = IsBaseOf-bias c.args.g.now c.from.result c.from.ensures

pub returns-clause-few : goal.returns-clause-few
returns-clause-few c =
    let base = IsBaseOf-bias c.args.g.now c.from.result c.from.ensures in
    omega (
      arith,
      c.weigh.ensures.total,
      total-few _ c.args.g.now c.points_of.result.now c.args.p.now base.some base.few,
    )
