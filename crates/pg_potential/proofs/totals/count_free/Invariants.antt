use Rattle.std.proofs.Common.{◌≡◌, not, take}
use Rattle.pg_potential.proofs.Common.{contains, count_by}
use Rattle.pg_potential.proofs.totals.count_free.Given as goal

abbrev pub invariant-loop-v : goal.invariant-loop-v
invariant-loop-v l = l.free ≡ count_by (λ v. not (contains l.marked v)) (take l.v-index l.line)
