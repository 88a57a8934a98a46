use Rattle.std.proofs.Common.{◌+◌, ◌<◌}
use Rattle.std.specs.FinSet.{contains}
use Rattle.pg_exchange.specs.Path.{first_label, second_label, above_of, via_of, depth_of}
use Rattle.pg_exchange.proofs.ClimbLemmas.{IsClimbedEither}
use Rattle.pg_exchange.proofs.path.climb.Given as goal

abbrev pub invariant-loop-p : goal.invariant-loop-p
invariant-loop-p l = record {
  climbed : IsClimbedEither (first_label l.g l.names) (second_label l.g l.names) (contains l.base)
      (depth_of l.steps) (above_of l.steps) (via_of l.steps) l.from l.to l.p l.q (contains l.found);
  range_p : l.p < l.g.vertices;
  range_q : l.q < l.g.vertices;
}

abbrev pub decreases-loop-p : goal.decreases-loop-p
decreases-loop-p l = depth_of l.steps l.p + depth_of l.steps l.q
