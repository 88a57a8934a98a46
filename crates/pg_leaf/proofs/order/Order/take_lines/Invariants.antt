use Rattle.std.proofs.Common.{IfSome}
use Rattle.pg_leaf.proofs.Common.{Contains, live_lines}
use Rattle.pg_leaf.specs.Order.{Takes}
use Rattle.pg_leaf.proofs.order.Order.take_lines.Given as goal

abbrev pub invariant-loop-v : goal.invariant-loop-v
invariant-loop-v l = IfSome l.next (Contains (live_lines l.b.game l.b.stand.position l.side))
    × Takes l.fn.self l.self
