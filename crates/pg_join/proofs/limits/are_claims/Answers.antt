use Rattle.std.proofs.Common.{List, arith, subst, take}
use Rattle.pg_image.specs.Limits.{IsImageClaim}
use Rattle.pg_image.specs.declared.cert.ImageClaim.{ImageClaim}
use Rattle.pg_join.proofs.Common.{All, All-more, take_all}
use Rattle.pg_join.proofs.limits.are_claims.Goals as goal

pub loop-claim-preserved : goal.loop-claim-preserved
loop-claim-preserved c = All-more IsImageClaim c.args.claims.now c.loop-claim.claim-index
    c.claim-item.result c.loop-claim-test.true c.loop-claim.invariant
    (subst (λ (claim : ImageClaim). IsImageClaim claim) c.claim-item.is
    (c.is_claim.ensures c.if-not-is_claim.false))

pub returns : goal.returns
returns c = λ _. subst (λ (cs : List ImageClaim). All IsImageClaim cs)
    (take_all c.loop-claim.claim-index c.args.claims.now (omega (arith, c.loop-claim-test.false)))
    c.loop-claim.invariant
