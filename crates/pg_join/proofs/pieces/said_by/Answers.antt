use Rattle.std.proofs.Common.{length, refl}
use Rattle.pg_join.proofs.Common.{slice_get_read}
use Rattle.pg_join.proofs.pieces.said_by.Goals as goal

pub loop-claim-preserved : goal.loop-claim-preserved
loop-claim-preserved c = λ v reached.
    let claims = c.args.claims.now in
    let at = slice_get_read claims (length claims) c.loop-claim.claim-index c.claim-item.result refl
    c.loop-claim-test.true c.claim-item.is in
    c.with_claim-span.ensures v (c.loop-claim.invariant v reached)
    (reached c.loop-claim.claim-index c.claim-item.result at)
