use Rattle.std.proofs.Common.{◌≡◌, ◌<◌, ℕ, List, true, get_or}
use Rattle.pg_potential.proofs.Common.{is_touched}
use Rattle.pg_potential.specs.Masks.{AreMasks}
use Rattle.pg_potential.proofs.masks.touch_all.Given as goal

abbrev pub invariant-loop-mask : goal.invariant-loop-mask
invariant-loop-mask l = (lines : List (List ℕ))
    → AreMasks lines l.masks
    → (j : ℕ) (d : List ℕ) → j < l.mask-index
    → is_touched l.points (get_or lines j d) ≡ true
