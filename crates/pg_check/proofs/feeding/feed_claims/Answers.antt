use Rattle.std.proofs.Common.{◌∙◌, ◌++◌, List, take_all, refl, subst}
use Rattle.pg_check.proofs.Common.{all_parts, Claim}
use Rattle.pg_check.specs.Checking.{StandsFor}
use Rattle.pg_check.proofs.TakenParts.{taken-none, claim-next, claim-taken}
use Rattle.pg_check.proofs.feeding.feed_claims.Goals as goal

pub loop-claim-init : goal.loop-claim-init
loop-claim-init c = record { game = refl; taken = taken-none c.args.checking.now }

pub feed_claim-requires-clause-next : goal.feed_claim-requires-clause-next
feed_claim-requires-clause-next c = claim-next c.args.checking.now c.loop-claim.checking
    c.args.claims.now c.loop-claim.claim-index c.claim-item.result c.loop-claim-test.true
    c.claim-item.is c.requires.next c.loop-claim.invariant.taken

pub loop-claim-preserved : goal.loop-claim-preserved
loop-claim-preserved c = record {
  game = c.feed_claim.ensures.game ∙ c.loop-claim.invariant.game;
  taken = claim-taken c.args.checking.now c.loop-claim.checking c.feed_claim.new.checking
      c.args.claims.now c.loop-claim.claim-index c.claim-item.result c.loop-claim-test.true
      c.claim-item.is c.loop-claim.invariant.taken c.in_ok-feed_claim.ensures.stands;
}

pub returns-clause-stands : goal.returns-clause-stands
returns-clause-stands c =
    λ fed s. subst (λ (cs : List Claim). StandsFor c.loop-claim.checking (fed ++ all_parts cs))
    (take_all c.loop-claim.claim-index c.args.claims.now c.loop-claim-test.false)
    (c.loop-claim.invariant.taken fed s)
