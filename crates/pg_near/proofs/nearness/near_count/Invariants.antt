use Rattle.std.proofs.Common.{◌≡◌, ◌≤◌, filter, length, take}
use Rattle.pg_near.specs.Near.{is_near}
use Rattle.pg_near.proofs.nearness.near_count.Given as goal

abbrev pub invariant-loop-node : goal.invariant-loop-node
invariant-loop-node l = record {
  exact : l.count ≡ length (filter (is_near l.game l.depth) (take l.node-index l.nodes));
  few : l.count ≤ l.node-index;
}
