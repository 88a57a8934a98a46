use Rattle.std.proofs.Common.{◌≤◌, ◌-◌}
use Rattle.pg_exchange.proofs.Common.{contains, below}
use Rattle.pg_exchange.specs.Stars.{IsGathered}
use Rattle.pg_exchange.proofs.stars.gather.Given as goal

abbrev pub invariant-loop-p : goal.invariant-loop-p
invariant-loop-p l = record {
  next : l.next ≤ 1024;
  gathered : IsGathered l.stars (below (contains l.labels) l.next) (contains l.all);
}

abbrev pub decreases-loop-p : goal.decreases-loop-p
decreases-loop-p l = 1024 - l.next
