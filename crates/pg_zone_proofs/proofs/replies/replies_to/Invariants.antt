use Rattle.pg_zone_proofs.proofs.Within.{AreRepliesBelow}
use Rattle.pg_zone_proofs.proofs.replies.replies_to.Given as goal

abbrev pub invariant-loop-point : goal.invariant-loop-point
invariant-loop-point l = AreRepliesBelow l.point l.replies.items
