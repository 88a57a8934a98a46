use Rattle.pg_leaf.proofs.Taking.{AreNoted}
use Rattle.pg_leaf.proofs.order.Order.new.Given as goal

abbrev pub invariant-loop-m : goal.invariant-loop-m
invariant-loop-m l = AreNoted l.moves l.m-index l.k l.left
