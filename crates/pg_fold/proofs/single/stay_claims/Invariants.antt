use Rattle.std.proofs.Common.{take}
use Rattle.std.specs.List.{AllZip}
use Rattle.pg_fold.specs.Places.{Stays}
use Rattle.pg_fold.proofs.single.stay_claims.Given as goal

abbrev pub invariant-loop-claim : goal.invariant-loop-claim
invariant-loop-claim l = AllZip Stays (take l.claim-index l.claims) l.same.items
