use Rattle.std.proofs.Common.{◌+◌, List, take, sym, subst}
use Rattle.pg_fold.proofs.Common.{AllZip, Claim, zip-more, ImageClaim}
use Rattle.pg_fold.specs.Places.{Stays}
use Rattle.pg_fold.proofs.single.stay_claims.Goals as goal

pub loop-claim-preserved : goal.loop-claim-preserved
loop-claim-preserved c =
    let claims = c.args.claims.now in
    let i = c.loop-claim.claim-index in
    let claim = c.claim-item.result in
    subst (λ (ds : List ImageClaim). AllZip Stays (take (i + 1) claims) ds)
    (sym c.in_ok-push.ensures.items)
    (zip-more Stays claims c.loop-claim.same.items i claim c.in_ok-next.next c.loop-claim-test.true
    c.loop-claim.invariant
    (subst (λ (q : Claim). Stays q c.in_ok-next.next) c.claim-item.is c.in_ok-next.ensures))
