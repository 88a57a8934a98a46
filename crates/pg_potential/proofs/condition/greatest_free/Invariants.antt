use Rattle.std.proofs.Common.{◌≡◌, get_or}
use Rattle.pg_potential.proofs.Common.{is_free, running}
use Rattle.pg_potential.proofs.condition.greatest_free.Given as goal

abbrev pub invariant-loop-v : goal.invariant-loop-v
invariant-loop-v l = l.greatest ≡ running (is_free l.p) (λ v. get_or l.points v 0) l.v
