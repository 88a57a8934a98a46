use Rattle.std.proofs.Common.{arith}
use Rattle.pg_game.proofs.WeightBounds.{IsBaseOf-two}
use Rattle.pg_potential.proofs.avoider.holds.Goals as goal

pub total_weight-total-requires : goal.total_weight-total-requires
total_weight-total-requires c = IsBaseOf-two c.args.g.now

pub overflow_mul-risk : goal.overflow_mul-risk
overflow_mul-risk c = omega (arith, c.total_weight-total.ensures.few)

pub full_weight-requires : goal.full_weight-requires
full_weight-requires c = IsBaseOf-two c.args.g.now
