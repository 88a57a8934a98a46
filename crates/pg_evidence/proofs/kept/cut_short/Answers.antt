use Rattle.std.proofs.Common.{Option, subst}
use Rattle.pg_image.specs.declared.image_gathering.ImageGathering.{ImageGathering}
use Rattle.pg_evidence.specs.Incoming.{IsGathered}
use Rattle.pg_evidence.proofs.Keeping.{cut_of, uncut}
use Rattle.pg_evidence.proofs.kept.cut_short.Goals as goal

pub returns-in_default : goal.returns-in_default
returns-in_default c text short kept = uncut text short
    (subst (λ (o : Option ImageGathering). IsGathered o text short) c.in_default.is kept)

pub returns : goal.returns
returns c text short kept = cut_of c.shorten.new.self text short
    (c.in_ok-shorten.ensures text short
    (subst (λ (o : Option ImageGathering). IsGathered o text short) c.in-Some.is kept))
