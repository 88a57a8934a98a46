use Rattle.std.proofs.Common.{◌≡◌, ◌++◌, take}
use Rattle.std.specs.List.{flat_map}
use Rattle.pg_image.specs.Print.{image_node_text}
use Rattle.pg_image.proofs.printing.put_nodes.Given as goal

abbrev pub invariant-loop-node : goal.invariant-loop-node
invariant-loop-node l =
    l.out.items ≡ l.fn.out.items ++ flat_map image_node_text (take l.node-index l.nodes)
