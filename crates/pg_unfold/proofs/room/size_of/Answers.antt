use Rattle.std.proofs.Common.{◌≡◌, Bool, List, length, sym, ap, ◌∙◌, subst}
use Rattle.pg_image.specs.declared.node.ImageNode.{ImageNode}
use Rattle.pg_unfold.specs.Flaws.{HasSize}
use Rattle.pg_unfold.specs.Marks.{AreEarlier, AreMet, copies_of}
use Rattle.pg_unfold.proofs.ClaimSteps.{HasSize-of}
use Rattle.pg_unfold.proofs.room.size_of.Goals as goal

pub met_copies-requires-clause-earlier : goal.met_copies-requires-clause-earlier
met_copies-requires-clause-earlier c =
    subst AreEarlier (sym c.as_slice-nodes.ensures) c.requires.earlier

pub returns : goal.returns
returns c =
    let claim = c.args.claim.now in
    let marks : List Bool = c.as_slice.result.now in
    let here : AreMet c.as_slice-nodes.result.now marks =
    subst (λ (ms : List Bool). AreMet c.as_slice-nodes.result.now ms)
    (sym c.as_slice.ensures.value) c.in_ok-marks.ensures in
    let met = subst (λ (ns : List ImageNode). AreMet ns marks) c.as_slice-nodes.ensures here in
    let count : c.count_kept.result ≡ length (copies_of claim.nodes marks) = c.count_kept.ensures
    ∙ ap (λ (ns : List ImageNode). length (copies_of ns marks)) c.as_slice-nodes.ensures in
    subst (HasSize claim) (sym count) (HasSize-of claim marks met)
