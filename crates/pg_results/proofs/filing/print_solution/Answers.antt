use Rattle.std.proofs.Common.{ℕ, Option, subst}
use Rattle.std.specs.Prelude.{IfSome}
use Rattle.pg_results.proofs.Common.{IfOk-weaker, IsFoldedWell, IsImageWithinLimits, ImageCert}
use Rattle.std.specs.Global.{Vec}
use Rattle.pg_results.proofs.FoldedFiles.{folded_file}
use Rattle.pg_results.proofs.filing.print_solution.Goals as goal

pub returns-in-Some : goal.returns-in-Some
returns-in-Some c =
    let g = c.args.game.now in
    let cert = c.args.certificate.now in
    let d = c.in-Some.folded in
    let well = subst (λ (o : Option ImageCert). IsFoldedWell g cert o) c.in-Some.is
    c.in_ok-folded.ensures.folded in
    let limits = subst (λ (o : Option ImageCert). IfSome o IsImageWithinLimits) c.in-Some.is
    c.in_ok-folded.ensures.limits in
    let stay = c.folded_certificates_stay_valid.ensures in
    let sound = stay.sound g cert d c.requires.limits c.requires.valid well.folded in
    rw c.if-not-images.false
    (IfOk-weaker _ _ _
    (λ (text : Vec ℕ) is. folded_file g cert d text.items well sound limits
    (λ u unfolded. stay.valid g cert d u c.requires.limits c.requires.valid well.folded unfolded)
    (λ u unfolded. stay.claims g cert d u well.folded unfolded) is) c.print_image.ensures)
