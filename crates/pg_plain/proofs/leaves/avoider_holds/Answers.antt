use Rattle.pg_game.proofs.WeightBounds.{IsBaseOf-two}
use Rattle.pg_plain.proofs.LeafLaws.{avoider_holds-is}
use Rattle.pg_plain.proofs.leaves.avoider_holds.Goals as goal

pub full_weight-requires : goal.full_weight-requires
full_weight-requires c = IsBaseOf-two c.args.g.now

pub returns : goal.returns
returns c = avoider_holds-is c.args.g.now c.args.p.now c.avoider_risk.result c.full_weight.result
    c.avoider_risk.ensures c.full_weight.ensures
