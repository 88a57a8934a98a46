use Rattle.std.proofs.Common.{map, get_or, arith, rules}
use Rattle.pg_cli.proofs.Common.{get_or_default, Win, X, ClaimHead, Speaks-from_err, cut_here}
use Rattle.pg_cli.proofs.Common.{grows_more}
use Rattle.pg_cli.specs.Checking.{head_acceptance}
use Rattle.pg_cli.proofs.checking.accept_all.Goals as goal

pub returns-in_err-say-clause-said : goal.returns-in_err-say-clause-said
returns-in_err-say-clause-said g c = Speaks-from_err (map head_acceptance c.args.claims.now) _ _
    c.from_residual.result c.from_residual.ensures.0
    (cut_here head_acceptance c.args.claims.now c.loop-claim.claim-index _ _ _
    c.loop-claim.invariant.0 c.in_err-say.ensures.said)

pub loop-claim-preserved : goal.loop-claim-preserved
loop-claim-preserved g c =
    let blank : ClaimHead = record { turn = X; side = X; goal = Win; nodes = 0 } in
    let item = get_or c.args.claims.now c.loop-claim.claim-index blank in (
      grows_more head_acceptance c.args.claims.now c.loop-claim.claim-index item (omega arith)
          (get_or_default c.args.claims.now c.loop-claim.claim-index blank item (omega arith)) _ _ _
          c.loop-claim.invariant.0 c.in_ok-say.ensures.said,
      search rules,
      search rules,
    )
