use Rattle.std.proofs.Common.{◌≡◌, [], List, subst}
use Rattle.pg_check.proofs.Common.{Game, all_parts, Claim}
use Rattle.pg_check.specs.Checking.{StandsFor, IsVerdict}
use Rattle.pg_check.proofs.checked.verdict.Goals as goal

pub finish-requires : goal.finish-requires
finish-requires c = record {
  cert = c.args.c.now;
  limits = c.requires;
  stands = subst (λ (cs : List Claim). StandsFor c.feed_claims.new.checking (all_parts cs))
      c.as_slice.ensures (c.in_ok-feed_claims.ensures.stands [] c.in_ok-checking.ensures.stands);
}

pub returns : goal.returns
returns c =
    let whole = subst (λ (cs : List Claim). StandsFor c.feed_claims.new.checking (all_parts cs))
    c.as_slice.ensures (c.in_ok-feed_claims.ensures.stands [] c.in_ok-checking.ensures.stands) in
    let kept = c.feed_claims.ensures.game in
    let begun = c.in_ok-checking.ensures.game in
    let game : c.feed_claims.new.checking.game.now ≡ c.args.g.now = cc in
    subst (λ (g : Game). IsVerdict c.finish.result g c.args.c.now) game
    (c.finish.ensures c.args.c.now c.requires whole)
