use Rattle.pg_sessions.proofs.Nodes.{HasNoneBefore}
use Rattle.pg_sessions.proofs.known.has_node.Given as goal

abbrev pub invariant-loop-node : goal.invariant-loop-node
invariant-loop-node l = HasNoneBefore l.claim.nodes l.position l.node-index
