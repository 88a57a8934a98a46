use Rattle.std.proofs.Common.{◌≡◌, map, take}
use Rattle.pg_near.specs.Near.{arranged_claim}
use Rattle.pg_near.proofs.arranging.arrange_claims.Given as goal

abbrev pub invariant-loop-claim : goal.invariant-loop-claim
invariant-loop-claim l =
    l.out.items ≡ map (arranged_claim l.game l.depth) (take l.claim-index l.claims)
