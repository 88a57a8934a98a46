use Rattle.std.proofs.Common.{List, refl, sym, subst}
use Rattle.pg_unfold.proofs.Common.{Cert, Claim, Two, ImageClaim}
use Rattle.pg_unfold.specs.Flaws.{AreSound}
use Rattle.pg_unfold.specs.Gathered.{AreGathered}
use Rattle.pg_unfold.specs.Unfolded.{AreUnfolded}
use Rattle.pg_unfold.specs.declared.unfolding.Gathered.{Gathered}
use Rattle.pg_unfold.proofs.ClaimsGathered.{room-of, within-gathered}
use Rattle.pg_unfold.proofs.unfolding.unfold.Goals as goal

pub returns-in-Ok : goal.returns-in-Ok
returns-in-Ok c =
    let g = c.args.g.now in
    let claims : List ImageClaim = c.args.c.now.claims in
    let all : Gathered = c.in-Ok.gathered in
    let gathered : AreGathered g claims all = subst (λ (cs : List ImageClaim). AreGathered g cs all)
    c.as_slice-claims.ensures c.in-Ok.ensures in
    let sound : AreSound g claims =
    subst (AreSound g) c.as_slice-claims.ensures c.in_default.ensures in
    let cert : Cert = record { version = Two; claims = c.from_vec.result } in
    record {
      unfolded = record {
        version = refl;
        claims = subst (λ (ds : List Claim). AreUnfolded g claims ds c.from_vec-in-Ok.result)
            (sym c.from_vec.ensures)
            (subst (AreUnfolded g claims all.claims.items)
            (sym c.from_vec-in-Ok.ensures) gathered.unfolded);
      };
      limits = within-gathered g c.args.c.now c.requires all gathered cert refl c.from_vec.ensures;
      faultless = record { sound = sound; room = room-of g claims all gathered };
      fault = λ claim node why e. absurd cc;
    }
