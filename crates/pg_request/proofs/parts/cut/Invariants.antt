use Rattle.std.proofs.Common.{◌≡◌, ◌++◌, drop}
use Rattle.pg_request.specs.Request.{cut}
use Rattle.pg_request.proofs.parts.cut.Given as goal

abbrev pub invariant-loop-length : goal.invariant-loop-length
invariant-loop-length l =
    l.parts.items ++ cut (drop l.length-index l.lengths) l.left ≡ cut l.lengths l.bytes
