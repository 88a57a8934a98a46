use Rattle.std.proofs.Common.{◌≡◌, ◌++◌, take}
use Rattle.std.specs.Prelude.{string_bytes}
use Rattle.pg_files.proofs.Common.{flat_map, spelled}
use Rattle.pg_files.specs.Print.{edge_words}
use Rattle.pg_files.proofs.printing.put_edges.Given as goal

abbrev pub invariant-loop-ends : goal.invariant-loop-ends
invariant-loop-ends l = string_bytes l.out ≡ string_bytes l.fn.out
    ++ flat_map (λ ends. spelled (edge_words ends)) (take l.ends-index l.edges)
