use Rattle.pg_leaf.specs.Order.{Takes}
use Rattle.pg_leaf.proofs.Taking.{AreGone}
use Rattle.pg_leaf.proofs.order.Order.take_rest.Given as goal

abbrev pub invariant-loop-m : goal.invariant-loop-m
invariant-loop-m l = Takes l.fn.self l.self × AreGone l.moves l.m-index l.self.left
