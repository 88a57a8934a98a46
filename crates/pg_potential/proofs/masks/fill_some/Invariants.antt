use Rattle.std.proofs.Common.{◌≡◌, ◌<◌, ℕ, List, false, get_or}
use Rattle.pg_potential.proofs.Common.{is_filled}
use Rattle.pg_potential.specs.Masks.{AreMasks}
use Rattle.pg_potential.proofs.masks.fill_some.Given as goal

abbrev pub invariant-loop-mask : goal.invariant-loop-mask
invariant-loop-mask l = (lines : List (List ℕ))
    → AreMasks lines l.masks
    → (j : ℕ) (d : List ℕ) → j < l.mask-index
    → is_filled l.points (get_or lines j d) ≡ false
