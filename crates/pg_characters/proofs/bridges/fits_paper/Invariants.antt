use Rattle.std.proofs.Common.{◌≡◌, ℕ, ◌<◌, ◌≤◌, true}
use Rattle.pg_characters.specs.Bridges.{fits_place}
use Rattle.pg_characters.proofs.bridges.fits_paper.Given as goal

-- each place so far fits
abbrev pub invariant-loop-place : goal.invariant-loop-place
invariant-loop-place l =
    (k : ℕ) → 0 ≤ k → k < l.place → fits_place l.graph l.rows k ≡ true
