use Rattle.pg_unfold.proofs.Roots.{HasRootAt-plain}
use Rattle.pg_unfold.proofs.laws.roots_stay.Goals as goal

pub returns : goal.returns
returns c = λ g d claim origins limits sound h root at. HasRootAt-plain g d claim origins h limits
    sound root at
