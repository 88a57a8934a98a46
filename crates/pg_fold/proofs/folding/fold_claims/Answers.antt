use Rattle.std.proofs.Common.{◌+◌, List, [], length, take, sym, refl, subst}
use Rattle.pg_fold.proofs.Common.{take_all, slice_get_read, AllZip, IsClaim, Claim, zip-more}
use Rattle.pg_fold.proofs.Common.{ImageClaim}
use Rattle.pg_fold.specs.Folded.{IsFoldedClaim}
use Rattle.pg_fold.specs.Places.{IsFoldable}
use Rattle.pg_fold.proofs.Listing.{all_at}
use Rattle.pg_fold.proofs.folding.fold_claims.Goals as goal

pub loop-claim-init : goal.loop-claim-init
loop-claim-init c = λ g tables can. subst (λ (ds : List ImageClaim). AllZip (IsFoldedClaim g) [] ds)
    (sym c.in_ok-folded.ensures.items) tt

pub fold_claim-requires-clause-limits : goal.fold_claim-requires-clause-limits
fold_claim-requires-clause-limits c =
    let claims = c.args.claims.now in
    let claim = c.claim-item.result in
    let at = slice_get_read claims
    (length claims) c.loop-claim.claim-index claim refl c.loop-claim-test.true c.claim-item.is in
    all_at IsClaim claims c.loop-claim.claim-index claim at c.requires.limits

pub loop-claim-preserved : goal.loop-claim-preserved
loop-claim-preserved c = λ g tables can.
    let claims = c.args.claims.now in
    let i = c.loop-claim.claim-index in
    let claim = c.claim-item.result in
    let at =
    slice_get_read claims (length claims) i claim refl c.loop-claim-test.true c.claim-item.is in
    subst (λ (ds : List ImageClaim). AllZip (IsFoldedClaim g) (take (i + 1) claims) ds)
    (sym c.in_ok-push.ensures.items)
    (zip-more (IsFoldedClaim g) claims c.loop-claim.folded.items i claim c.in_ok-next.next
    c.loop-claim-test.true (c.loop-claim.invariant g tables can)
    (subst (λ (q : Claim). IsFoldedClaim g q c.in_ok-next.next) c.claim-item.is
    (c.in_ok-next.ensures g tables (all_at (IsFoldable g) claims i claim at can))))

pub returns : goal.returns
returns c = λ g tables can.
    subst (λ (cs : List Claim). AllZip (IsFoldedClaim g) cs c.loop-claim.folded.items)
    (take_all c.loop-claim.claim-index c.args.claims.now c.loop-claim-test.false)
    (c.loop-claim.invariant g tables can)
