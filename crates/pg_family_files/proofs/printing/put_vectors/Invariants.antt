use Rattle.std.proofs.Common.{◌≡◌, ◌++◌, take}
use Rattle.std.specs.Prelude.{string_bytes}
use Rattle.pg_family_files.proofs.Common.{flat_map, spelled}
use Rattle.pg_family_files.specs.Print.{vector_words}
use Rattle.pg_family_files.proofs.printing.put_vectors.Given as goal

abbrev pub invariant-loop-vector : goal.invariant-loop-vector
invariant-loop-vector l = string_bytes l.out ≡ string_bytes l.fn.out
    ++ flat_map (λ v. spelled (vector_words l.rows v)) (take l.vector-index l.vectors)
