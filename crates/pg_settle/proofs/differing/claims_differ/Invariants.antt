use Rattle.pg_settle.proofs.Positions.{DifferUpTo}
use Rattle.pg_settle.proofs.differing.claims_differ.Given as goal

abbrev pub invariant-loop-claim : goal.invariant-loop-claim
invariant-loop-claim l = DifferUpTo l.certificate.claims l.claim-index
