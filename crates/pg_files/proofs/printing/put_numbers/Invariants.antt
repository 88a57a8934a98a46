use Rattle.std.proofs.Common.{◌≡◌, ◌++◌, ◌∷◌, take}
use Rattle.std.specs.Prelude.{string_bytes}
use Rattle.pg_files.proofs.Common.{decimal, flat_map}
use Rattle.pg_files.proofs.printing.put_numbers.Given as goal

abbrev pub invariant-loop-n : goal.invariant-loop-n
invariant-loop-n l = string_bytes l.out ≡ string_bytes l.fn.out
    ++ (l.fn.word ++ flat_map (λ n. 32 ∷ decimal n) (take l.n-index l.numbers))
