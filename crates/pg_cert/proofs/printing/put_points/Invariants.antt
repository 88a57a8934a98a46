use Rattle.std.proofs.Common.{◌≡◌, ◌++◌, take, map}
use Rattle.std.specs.Prelude.{string_bytes}
use Rattle.pg_cert.proofs.Common.{decimal, behind_spaces}
use Rattle.pg_cert.proofs.printing.put_points.Given as goal

abbrev pub invariant-loop-p : goal.invariant-loop-p
invariant-loop-p l = string_bytes l.out
    ≡ string_bytes l.fn.out ++ behind_spaces (map decimal (take l.p-index l.points))
