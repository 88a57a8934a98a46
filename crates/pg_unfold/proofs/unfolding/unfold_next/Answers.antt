use Rattle.std.proofs.Common.{length, ap, subst, arith}
use Rattle.pg_unfold.specs.Gathered.{IsTaken, UnfoldsWithin}
use Rattle.pg_unfold.proofs.unfolding.unfold_next.Goals as goal

pub returns : goal.returns
returns c =
    let g = c.args.g.now in
    let claim = c.args.claim.now in
    let room = c.args.gathered.now.room in
    let taken : IsTaken g claim c.in-Some.unfolded.claim c.in-Some.unfolded.origins room =
    subst (UnfoldsWithin g claim room) c.in-Some.is c.in_ok-found.ensures in
    let size = ap length c.as_slice-size.ensures in
    let within = taken.within in
    record {
      claim = c.in-Some.unfolded.claim;
      origins = c.in-Some.unfolded.origins;
      taken = taken;
      claims = c.in_ok-push.ensures.items;
      sources = c.in_ok-push-2.ensures.items;
      room = omega (arith, size, within);
    }
