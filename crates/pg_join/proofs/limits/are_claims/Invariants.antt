use Rattle.std.proofs.Common.{take}
use Rattle.pg_join.proofs.Common.{All}
use Rattle.pg_image.specs.Limits.{IsImageClaim}
use Rattle.pg_join.proofs.limits.are_claims.Given as goal

abbrev pub invariant-loop-claim : goal.invariant-loop-claim
invariant-loop-claim l = All IsImageClaim (take l.claim-index l.claims)
