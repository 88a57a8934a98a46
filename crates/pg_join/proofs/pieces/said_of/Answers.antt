use Rattle.std.proofs.Common.{◌≡◌, List, subst, sym, true, ap}
use Rattle.pg_base.specs.declared.side.Side.{Side}
use Rattle.pg_cert.specs.declared.cert.Claim.{Claim}
use Rattle.pg_game.specs.Game.{start, with_turn}
use Rattle.pg_game.specs.Value.{reaches, value}
use Rattle.pg_join.specs.Pieces.{AreReached}
use Rattle.pg_join.proofs.pieces.said_of.Goals as goal

pub returns-in-Ok : goal.returns-in-Ok
returns-in-Ok c =
    let played = c.args.game.now in
    let found = c.args.certificate.now in
    let score = value played (start played) in
    let forced : AreReached found.claims played.turn score = λ i claim at same.
    subst (λ (t : Side). reaches claim.side claim.goal (value played (with_turn played t)) ≡ true)
    same (c.valid_claims_are_forced.ensures played found c.requires c.in-Ok.ensures.valid i claim
    at) in
    c.said_by.ensures score (subst (λ (cs : List Claim). AreReached cs played.turn score)
    (sym c.as_slice.ensures) forced)
