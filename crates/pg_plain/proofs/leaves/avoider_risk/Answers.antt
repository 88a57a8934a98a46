use Rattle.std.proofs.Common.{arith}
use Rattle.pg_game.proofs.WeightBounds.{IsBaseOf-two, two-few, total-few}
use Rattle.pg_plain.proofs.leaves.avoider_risk.Goals as goal

pub total_weight-total-requires : goal.total_weight-total-requires
total_weight-total-requires c = IsBaseOf-two c.args.g.now

pub overflow_mul-result : goal.overflow_mul-result
overflow_mul-result c = omega (
  arith,
  c.total_weight-total.ensures,
  total-few 2 c.args.g.now c.args.p.now.y c.args.p.now (omega arith) (two-few c.args.g.now),
)
