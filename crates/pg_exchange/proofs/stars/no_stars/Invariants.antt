use Rattle.std.proofs.Common.{◌≡◌, replicate}
use Rattle.pg_exchange.proofs.Common.{empty}
use Rattle.pg_exchange.proofs.stars.no_stars.Given as goal

abbrev pub invariant-loop-p : goal.invariant-loop-p
invariant-loop-p l = l.stars.items ≡ replicate l._p empty
