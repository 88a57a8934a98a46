use Rattle.std.proofs.Common.{◌≡◌, take}
use Rattle.pg_cert.specs.Limits.{node_count}
use Rattle.pg_results.proofs.counting.node_count.Given as goal

abbrev pub invariant-loop-claim : goal.invariant-loop-claim
invariant-loop-claim l = l.count ≡ node_count (take l.claim-index l.claim-items)
