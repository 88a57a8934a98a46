use Rattle.std.proofs.Common.{take}
use Rattle.pg_join.proofs.Common.{All}
use Rattle.pg_image.specs.Limits.{IsImageNode}
use Rattle.pg_join.proofs.limits.are_nodes.Given as goal

abbrev pub invariant-loop-node : goal.invariant-loop-node
invariant-loop-node l = All IsImageNode (take l.node-index l.nodes)
