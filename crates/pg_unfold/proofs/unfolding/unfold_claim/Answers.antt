use Rattle.std.proofs.Common.{◌≤◌, refl, subst}
use Rattle.pg_unfold.proofs.Common.{Claim}
use Rattle.pg_unfold.specs.Layouts.{IsLaidOut, LaysOutWithin, size_in}
use Rattle.pg_unfold.proofs.ClaimSteps.{AreEarlier-sound}
use Rattle.pg_unfold.proofs.Layouts.{taken-laid}
use Rattle.pg_unfold.proofs.unfolding.unfold_claim.Goals as goal

pub lay_out_claim-requires-clause-earlier : goal.lay_out_claim-requires-clause-earlier
lay_out_claim-requires-clause-earlier c =
    AreEarlier-sound c.args.g.now c.args.claim.now c.requires.sound

pub returns : goal.returns
returns c =
    let claim = c.args.claim.now in
    let layout = c.in-Some.layout in
    let laid : IsLaidOut claim layout × (size_in layout ≤ c.args.room) =
    subst (LaysOutWithin claim c.args.room) c.in-Some.is c.in_ok-layout.ensures in
    let unfolded : Claim = record {
      turn = claim.turn;
      side = claim.side;
      goal = claim.goal;
      nodes = c.from_vec.result;
    } in
    taken-laid c.args.g.now claim layout c.requires.sound laid.0 c.in_ok-copied.copied.items
    c.in_ok-copied.ensures c.args.room laid.1 c.in_ok-origins.origins c.in_ok-origins.ensures
    unfolded refl refl refl c.from_vec.ensures
