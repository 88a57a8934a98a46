-- A weight that isn't above the greatest so far needn't be looked at.
use Rattle.std.proofs.Common.{◌≡◌, ℕ, ◌≤◌, Bool, true, false, ◌&&◌, nat_lt, if◌then◌else◌, refl}
use Rattle.std.proofs.Common.{inl, inr, arith}
use Rattle.std.specs.Prelude.{max}
use Rattle.std.proofs.lemmas.Bool.{cases_Bool, ltb-false}

unneeded : (b : Bool) (m w : ℕ) → w ≤ m → max m 0 ≡ max m (if b then w else 0)
unneeded true m w h = omega (arith, h)
unneeded false m w h = refl

pub weight-raised : (b : Bool) (m w : ℕ)
    → max m (if nat_lt m w && b then w else 0) ≡ max m (if b then w else 0)
weight-raised b m w = elim (cases_Bool (nat_lt m w)) [
  | inl on ↦ rw on refl
  | inr off ↦ let le = ltb-false m w off in rw off (unneeded b m w le)
]
