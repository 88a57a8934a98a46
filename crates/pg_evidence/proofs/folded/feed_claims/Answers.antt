use Rattle.std.proofs.Common.{◌≡◌, ◌∙◌, ◌<◌, ◌≤◌, List, length, get_or, refl, subst}
use Rattle.pg_evidence.proofs.Common.{ImageClaim}
use Rattle.pg_evidence.proofs.Feeding.{fed-at, fed-end, fed-nothing, laid-at, room-at, sound-at}
use Rattle.pg_evidence.proofs.Feeding.{within-layouts}
use Rattle.pg_evidence.proofs.folded.feed_claims.Goals as goal

pub loop-i-init : goal.loop-i-init
loop-i-init c = record {
  game = refl;
  fed = fed-nothing c.args.game.now _ c.args.checking.now c.new-sources.ensures.items
      c.requires.first;
}

pub feed_claim-requires-clause-laid : goal.feed_claim-requires-clause-laid
feed_claim-requires-clause-laid c =
    let i = c.loop-i.i in
    let claim : ImageClaim = c.index-claims-i.result in
    laid-at c.args.game.now c.args.certificate.now c.requires.limits c.args.layouts.now
    c.requires.laid i
    (subst (λ (cs : List ImageClaim). i < length cs) c.as_slice-claims.ensures c.loop-i-test.true)
    claim c.index-layouts-i.result (subst (λ (cs : List ImageClaim). claim ≡ get_or cs i claim)
    c.as_slice-claims.ensures c.index-claims-i.is) c.index-layouts-i.is

pub feed_claim-requires-clause-sound : goal.feed_claim-requires-clause-sound
feed_claim-requires-clause-sound c =
    let i = c.loop-i.i in
    let claim : ImageClaim = c.index-claims-i.result in
    sound-at c.args.game.now c.args.certificate.now c.requires.limits c.args.layouts.now
    c.requires.laid i
    (subst (λ (cs : List ImageClaim). i < length cs) c.as_slice-claims.ensures c.loop-i-test.true)
    claim c.index-layouts-i.result (subst (λ (cs : List ImageClaim). claim ≡ get_or cs i claim)
    c.as_slice-claims.ensures c.index-claims-i.is) c.index-layouts-i.is c.requires.sound

pub feed_claim-requires-clause-room : goal.feed_claim-requires-clause-room
feed_claim-requires-clause-room c =
    let i = c.loop-i.i in
    let claim : ImageClaim = c.index-claims-i.result in
    room-at c.args.game.now c.args.certificate.now c.requires.limits c.args.layouts.now
    c.requires.laid i
    (subst (λ (cs : List ImageClaim). i < length cs) c.as_slice-claims.ensures c.loop-i-test.true)
    claim c.index-layouts-i.result (subst (λ (cs : List ImageClaim). claim ≡ get_or cs i claim)
    c.as_slice-claims.ensures c.index-claims-i.is) c.index-layouts-i.is c.loop-i.sources.items
    c.loop-i.checking c.loop-i.invariant.fed

pub bounds-layouts-i : goal.bounds-layouts-i
bounds-layouts-i c = within-layouts c.args.game.now c.args.certificate.now c.requires.limits
    c.args.layouts.now c.requires.laid c.loop-i.i
    (subst (λ (cs : List ImageClaim). c.loop-i.i < length cs) c.as_slice-claims.ensures
    c.loop-i-test.true)

pub origins-requires-clause-whole : goal.origins-requires-clause-whole
origins-requires-clause-whole c =
    let i = c.loop-i.i in
    let claim : ImageClaim = c.index-claims-i.result in
    let laid = laid-at c.args.game.now c.args.certificate.now c.requires.limits c.args.layouts.now
    c.requires.laid i
    (subst (λ (cs : List ImageClaim). i < length cs) c.as_slice-claims.ensures c.loop-i-test.true)
    claim c.index-layouts-i.result (subst (λ (cs : List ImageClaim). claim ≡ get_or cs i claim)
    c.as_slice-claims.ensures c.index-claims-i.is) c.index-layouts-i.is in
    laid.met.whole

pub loop-i-preserved : goal.loop-i-preserved
loop-i-preserved c =
    let i = c.loop-i.i in
    let claim : ImageClaim = c.index-claims-i.result in
    record {
      game = c.feed_claim.ensures.game ∙ c.loop-i.invariant.game;
      fed = fed-at c.args.game.now c.args.certificate.now c.requires.limits c.args.layouts.now
          c.requires.laid i (subst (λ (cs : List ImageClaim). i < length cs)
          c.as_slice-claims.ensures c.loop-i-test.true) claim c.index-layouts-i.result
          (subst (λ (cs : List ImageClaim). claim ≡ get_or cs i claim) c.as_slice-claims.ensures
          c.index-claims-i.is) c.index-layouts-i.is c.loop-i.sources.items c.loop-i.checking
          c.loop-i.invariant.fed c.feed_claim.new.checking c.in_ok-origins.origins
          c.push.new.self.items c.in_ok-feed_claim.ensures.fed c.in_ok-origins.ensures
          c.in_ok-push.ensures.items;
    }

pub returns-clause-fed : goal.returns-clause-fed
returns-clause-fed c = fed-end c.args.game.now c.args.certificate.now c.requires.limits
    c.args.layouts.now c.requires.laid c.loop-i.i c.loop-i.sources.items c.loop-i.checking
    (subst (λ (cs : List ImageClaim). length cs ≤ c.loop-i.i) c.as_slice-claims.ensures
    c.loop-i-test.false) c.loop-i.invariant.fed
