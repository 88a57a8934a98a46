use Rattle.pg_game.proofs.WeightBounds.{IsBaseOf-bias}
use Rattle.pg_plain.proofs.leaves.breaker_base.Goals as goal

pub returns-clause-fits : goal.returns-clause-fits
returns-clause-fits c = IsBaseOf-bias c.args.g.now c.from.result c.from.ensures
