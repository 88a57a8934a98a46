use Rattle.std.proofs.Common.{◌≡◌, ℕ, List, sym, subst}
use Rattle.pg_evidence.specs.Standing.{CameFrom, HasOrigin}
use Rattle.pg_evidence.proofs.Common.{Game, IsFirstFault, IsValid}
use Rattle.pg_evidence.proofs.Feeding.{fed-all, fed-fault, fed-origin, fed-unfolding, fed-valid}
use Rattle.pg_evidence.proofs.Feeding.{fed-within}
use Rattle.pg_evidence.proofs.folded.check_folded.Goals as goal

pub feed_claims-requires-clause-first : goal.feed_claims-requires-clause-first
feed_claims-requires-clause-first c = c.in_ok-checking.ensures.stands

pub finish-requires : goal.finish-requires
finish-requires c = fed-all c.args.game.now c.args.certificate.now c.requires.limits
    c.args.layouts.now c.requires.laid c.requires.sound c.in_ok-sources.sources.items
    c.feed_claims.new.checking c.in_ok-sources.ensures.fed

pub returns-in-Ok : goal.returns-in-Ok
returns-in-Ok c =
    let g = c.args.game.now in
    let cert = c.args.certificate.now in
    let ls = c.args.layouts.now in
    let sources = c.in_ok-sources.sources.items in
    let now = c.feed_claims.new.checking in
    let fed = c.in_ok-sources.ensures.fed in
    let kept = c.feed_claims.ensures.game in
    let begun = c.in_ok-checking.ensures.game in
    let game : now.game.now ≡ g = cc in
    let u =
    fed-unfolding g cert c.requires.limits ls c.requires.laid c.requires.sound sources now fed in
    fed-valid g cert c.requires.limits ls c.requires.laid c.requires.sound sources now fed
    (subst (λ (h : Game). IsValid h u.cert) game (c.in-Ok.ensures u.cert
    (fed-within g cert c.requires.limits ls c.requires.laid c.requires.sound sources now fed)
    fed.stands))

pub origin_of-requires : goal.origin_of-requires
origin_of-requires c =
    let g = c.args.game.now in
    let cert = c.args.certificate.now in
    let ls = c.args.layouts.now in
    let sources = c.in_ok-sources.sources.items in
    let now = c.feed_claims.new.checking in
    let fed = c.in_ok-sources.ensures.fed in
    let kept = c.feed_claims.ensures.game in
    let begun = c.in_ok-checking.ensures.game in
    let game : now.game.now ≡ g = cc in
    let u =
    fed-unfolding g cert c.requires.limits ls c.requires.laid c.requires.sound sources now fed in
    subst (λ (os : List (List ℕ)). HasOrigin os c.in-Err.rejected.claim c.in-Err.rejected.node)
    (sym c.as_slice-origins.ensures.value)
    (fed-origin g cert c.requires.limits ls c.requires.laid c.requires.sound sources now fed
    c.in-Err.rejected.claim c.in-Err.rejected.node c.in-Err.rejected.why (subst (λ (h : Game).
    IsFirstFault h u.cert c.in-Err.rejected.claim c.in-Err.rejected.node c.in-Err.rejected.why) game
    (c.in-Err.ensures u.cert (fed-within g cert c.requires.limits ls c.requires.laid
    c.requires.sound sources now fed) fed.stands)))

pub returns : goal.returns
returns c =
    let g = c.args.game.now in
    let cert = c.args.certificate.now in
    let ls = c.args.layouts.now in
    let sources = c.in_ok-sources.sources.items in
    let now = c.feed_claims.new.checking in
    let fed = c.in_ok-sources.ensures.fed in
    let kept = c.feed_claims.ensures.game in
    let begun = c.in_ok-checking.ensures.game in
    let game : now.game.now ≡ g = cc in
    let u =
    fed-unfolding g cert c.requires.limits ls c.requires.laid c.requires.sound sources now fed in
    fed-fault g cert c.requires.limits ls c.requires.laid c.requires.sound sources now fed
    c.in-Err.rejected.claim c.in-Err.rejected.node c.origin_of.result c.in-Err.rejected.why
    (subst (λ (h : Game).
    IsFirstFault h u.cert c.in-Err.rejected.claim c.in-Err.rejected.node c.in-Err.rejected.why) game
    (c.in-Err.ensures u.cert
    (fed-within g cert c.requires.limits ls c.requires.laid c.requires.sound sources now fed)
    fed.stands))
    (subst (λ (os : List (List ℕ)). CameFrom os c.in-Err.rejected.claim c.in-Err.rejected.node
    c.origin_of.result) c.as_slice-origins.ensures.value c.origin_of.ensures)
