use Rattle.pg_game.proofs.WeightBounds.{IsBaseOf-bias}
use Rattle.pg_potential.proofs.condition.total_for.Goals as goal

pub total_weight-requires : goal.total_weight-requires
total_weight-requires c = IsBaseOf-bias c.args.g.now c.from.result c.from.ensures
