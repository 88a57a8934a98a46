use Rattle.std.proofs.Common.{◌≡◌, ◌++◌, take, map}
use Rattle.std.specs.Prelude.{string_bytes}
use Rattle.pg_family_files.proofs.Common.{decimal, behind_spaces}
use Rattle.pg_family_files.proofs.cert_printing.put_numbers.Given as goal

abbrev pub invariant-loop-n : goal.invariant-loop-n
invariant-loop-n l = string_bytes l.out
    ≡ string_bytes l.fn.out ++ behind_spaces (map decimal (take l.n-index l.numbers))
