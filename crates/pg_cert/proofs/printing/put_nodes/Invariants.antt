use Rattle.std.proofs.Common.{◌≡◌, ◌++◌, take}
use Rattle.std.specs.Prelude.{string_bytes}
use Rattle.std.specs.List.{flat_map}
use Rattle.pg_cert.specs.Print.{node_text}
use Rattle.pg_cert.proofs.printing.put_nodes.Given as goal

abbrev pub invariant-loop-node : goal.invariant-loop-node
invariant-loop-node l =
    string_bytes l.out ≡ string_bytes l.fn.out ++ flat_map node_text (take l.node-index l.nodes)
