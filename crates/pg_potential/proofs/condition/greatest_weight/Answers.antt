use Rattle.pg_potential.proofs.GreatestWeight.{greatest_weight-is}
use Rattle.pg_potential.proofs.condition.greatest_weight.Goals as goal

pub returns : goal.returns
returns c = greatest_weight-is c.args.g.now c.args.p.now c.args.side c.weights_for.result.points
    c.greatest_free.result c.requires c.weights_for.ensures.points c.greatest_free.ensures
