use Rattle.pg_unfold.proofs.Roots.{HasImage-copy}
use Rattle.pg_unfold.proofs.laws.copies_have_images.Goals as goal

pub returns : goal.returns
returns c =
    λ g d claim origins h copy node met at. HasImage-copy g d claim origins h copy node met at
