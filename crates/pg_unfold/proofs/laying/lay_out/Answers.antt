use Rattle.std.proofs.Common.{List, subst, arith}
use Rattle.pg_unfold.proofs.Common.{ImageClaim}
use Rattle.pg_unfold.specs.Flaws.{AreSound}
use Rattle.pg_unfold.specs.Layouts.{AreLaid}
use Rattle.pg_unfold.specs.declared.laying.Laid.{Laid}
use Rattle.pg_unfold.proofs.Layouts.{earlier-all}
use Rattle.pg_unfold.proofs.Rooms.{counted-room}
use Rattle.pg_unfold.proofs.laying.lay_out.Goals as goal

pub lay_out_claims-requires-clause-earlier : goal.lay_out_claims-requires-clause-earlier
lay_out_claims-requires-clause-earlier c =
    earlier-all c.args.g.now c.as_slice-claims.result.now c.in_default.ensures

pub returns-in-Ok : goal.returns-in-Ok
returns-in-Ok c =
    let g = c.args.g.now in
    let claims : List ImageClaim = c.args.c.now.claims in
    let all : Laid = c.in-Ok.laid in
    let laid : AreLaid claims all = subst (λ (cs : List ImageClaim). AreLaid cs all)
    c.as_slice-claims.ensures c.in-Ok.ensures in
    let sound : AreSound g claims =
    subst (AreSound g) c.as_slice-claims.ensures c.in_default.ensures in
    let sizes = laid.sizes in
    record {
      laid = record { each = laid.each; few = omega (arith, sizes) };
      faultless = record { sound = sound; room = counted-room claims all.room laid.counted };
      fault = λ claim node why e. absurd cc;
    }
