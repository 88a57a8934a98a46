use Rattle.pg_game.proofs.WeightBounds.{IsBaseOf-bias}
use Rattle.pg_potential.proofs.condition.limit.Goals as goal

pub full_weight-requires : goal.full_weight-requires
full_weight-requires c = IsBaseOf-bias c.args.g.now c.from.result c.from.ensures
