use Rattle.std.proofs.Common.{map, rules}
use Rattle.pg_talk.proofs.Speaking.{Speaks-from_err, cut_here, grows_more}
use Rattle.pg_families.specs.Vectors.{vec_acceptance}
use Rattle.pg_families.proofs.vec_check.accept_vectors.Goals as goal

pub returns-in_err-say-clause-said : goal.returns-in_err-say-clause-said
returns-in_err-say-clause-said g c = Speaks-from_err (map vec_acceptance c.args.claims.now) _ _
    c.from_residual.result c.from_residual.ensures.0
    (cut_here vec_acceptance c.args.claims.now c.loop-claim.claim-index _ _ _
    c.loop-claim.invariant.0 c.in_err-say.ensures.said)

pub loop-claim-preserved : goal.loop-claim-preserved
loop-claim-preserved g c = (
  grows_more vec_acceptance c.args.claims.now c.loop-claim.claim-index c.claim-item.result
      c.loop-claim-test.true c.claim-item.is _ _ _ c.loop-claim.invariant.0
      c.in_ok-say.ensures.said,
  search rules,
  search rules,
)
