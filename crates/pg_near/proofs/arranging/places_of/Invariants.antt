use Rattle.std.proofs.Common.{◌≡◌, ◌+◌, ◌≤◌, ◌++◌, drop, length}
use Rattle.pg_near.specs.Near.{is_near, places_from, places_of}
use Rattle.pg_near.proofs.arranging.places_of.Given as goal

abbrev pub invariant-loop-node : goal.invariant-loop-node
invariant-loop-node l = record {
  numbered : l.places.items
      ++ places_from (is_near l.game l.depth) l.next_far l.next_near (drop l.node-index l.nodes)
      ≡ places_of (is_near l.game l.depth) l.nodes;
  few : l.next_far ≤ l.node-index;
  fewer : l.next_near ≤ length l.nodes + l.node-index;
}
