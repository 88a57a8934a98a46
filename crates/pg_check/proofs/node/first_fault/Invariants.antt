use Rattle.std.proofs.Common.{◌≡◌, ◌<◌, ◌+◌}
use Rattle.pg_check.proofs.Common.{NodeFault, fault_number}
use Rattle.pg_check.specs.Present.{PassesSoFar}
use Rattle.pg_check.proofs.node.first_fault.Given as goal

abbrev pub invariant-loop-fault : goal.invariant-loop-fault
invariant-loop-fault l = record {
  kept : l.tester ≡ l.fn.tester;
  passed : (before : NodeFault)
      → fault_number before < l.fault-index + 1
      → PassesSoFar l.g l.claim l.k l.node before;
}
