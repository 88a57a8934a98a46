use Rattle.std.proofs.Common.{◌∙◌, ◌++◌, Option, sym, ap, subst}
use Rattle.pg_image.specs.declared.image_gathering.ImageGathering.{ImageGathering}
use Rattle.pg_evidence.specs.Incoming.{IsGathered, may_have_images}
use Rattle.pg_evidence.proofs.FirstLines.{no_images}
use Rattle.pg_evidence.proofs.kept.gather.Goals as goal

pub returns-then-not-may_have_images : goal.returns-then-not-may_have_images
returns-then-not-may_have_images c text short first kept = no_images (text ++ c.args.piece.now)
    (ap may_have_images (sym first) ∙ sym c.may_have_images.ensures ∙ c.if-not-may_have_images.true)

pub returns : goal.returns
returns c text short first kept = c.in_ok-take.ensures text short
    (subst (λ (o : Option ImageGathering). IsGathered o text short) c.in-Some.is kept)
