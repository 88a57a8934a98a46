use Rattle.pg_leaf.specs.Order.{Takes}
use Rattle.pg_leaf.proofs.order.Order.take_line.Given as goal

abbrev pub invariant-loop-i : goal.invariant-loop-i
invariant-loop-i l = Takes l.fn.self l.self
