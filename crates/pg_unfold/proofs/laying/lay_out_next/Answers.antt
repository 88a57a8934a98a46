use Rattle.std.proofs.Common.{◌≤◌, subst, arith}
use Rattle.pg_unfold.specs.Layouts.{IsLaidOut, LaysOutWithin, size_in}
use Rattle.pg_unfold.proofs.laying.lay_out_next.Goals as goal

pub returns : goal.returns
returns c =
    let claim = c.args.claim.now in
    let room = c.args.laid.now.room in
    let laid : IsLaidOut claim c.in-Some.layout × (size_in c.in-Some.layout ≤ room) =
    subst (LaysOutWithin claim room) c.in-Some.is c.in_ok-found.ensures in
    let size = c.size.ensures in
    let within = laid.1 in
    record {
      layout = c.in-Some.layout;
      laid = laid.0;
      layouts = c.in_ok-push.ensures.items;
      room = omega (arith, size, within);
    }
