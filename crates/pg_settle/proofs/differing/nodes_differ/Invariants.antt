use Rattle.pg_settle.proofs.Common.{contains, equal_positions}
use Rattle.pg_settle.proofs.Positions.{HasMet}
use Rattle.pg_settle.proofs.differing.nodes_differ.Given as goal

abbrev pub invariant-loop-node : goal.invariant-loop-node
invariant-loop-node l = HasMet (contains equal_positions l.met) l.nodes l.node-index
