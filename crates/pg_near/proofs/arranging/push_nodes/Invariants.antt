use Rattle.std.proofs.Common.{◌≡◌, ◌++◌, filter, map, take}
use Rattle.pg_near.specs.Near.{is_near, moved, passes}
use Rattle.pg_near.proofs.arranging.push_nodes.Given as goal

abbrev pub invariant-loop-node : goal.invariant-loop-node
invariant-loop-node l = l.out.items
    ≡ l.fn.out.items
    ++ map (moved l.places)
    (filter (λ node. passes l.wanted (is_near l.game l.depth node)) (take l.node-index l.nodes))
