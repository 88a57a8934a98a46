use Rattle.pg_leaf.proofs.Taking.{takes-on}
use Rattle.pg_leaf.proofs.order.Order.take_line.Goals as goal

pub loop-i-preserved : goal.loop-i-preserved
loop-i-preserved c = takes-on _ _ _ c.loop-i.invariant c.in_ok-take.ensures.takes
