use Rattle.std.proofs.Common.{◌∙◌, sym, ap}
use Rattle.pg_evidence.specs.Evidence.{has_images}
use Rattle.pg_evidence.proofs.Keeping.{shown_with, shown_without}
use Rattle.pg_evidence.proofs.kept.Kept.with_images.Goals as goal

pub returns-then-has_images : goal.returns-then-has_images
returns-then-has_images c text short kept = shown_with c.args.self text short
    (ap has_images (sym c.deref.ensures.value) ∙ sym c.has_images.ensures ∙ c.if-has_images.true)
    kept

pub returns-else-has_images : goal.returns-else-has_images
returns-else-has_images c text short kept = shown_without c.args.self text short
    (ap has_images (sym c.deref.ensures.value) ∙ sym c.has_images.ensures ∙ c.if-has_images.false)
    kept
