use Rattle.std.proofs.Common.{◌<◌, take}
use Rattle.std.specs.Prelude.{IfSome}
use Rattle.pg_check.specs.Lacked.{IsLackedSoFar}
use Rattle.pg_check.proofs.threats.only_lacked.Given as goal

abbrev pub invariant-loop-i : goal.invariant-loop-i
invariant-loop-i l =
    IsLackedSoFar l.points (take l.i l.line) l.lacked × IfSome l.lacked (λ u. u < 1024)
