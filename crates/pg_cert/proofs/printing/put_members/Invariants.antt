use Rattle.std.proofs.Common.{◌≡◌, ◌++◌, map}
use Rattle.std.specs.Prelude.{string_bytes}
use Rattle.pg_cert.proofs.Common.{decimal, behind_spaces}
use Rattle.pg_cert.proofs.printing.put_members.Given as goal

abbrev pub invariant-loop-v : goal.invariant-loop-v
invariant-loop-v l = string_bytes l.out ++ behind_spaces (map decimal l.v-iterator)
    ≡ string_bytes l.fn.out ++ behind_spaces (map decimal l.fn.members)
