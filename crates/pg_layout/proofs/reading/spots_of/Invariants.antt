use Rattle.std.proofs.Common.{◌≡◌, Some}
use Rattle.pg_layout.specs.LayoutFile.{spots_below}
use Rattle.pg_layout.proofs.reading.spots_of.Given as goal

abbrev pub invariant-loop-p : goal.invariant-loop-p
invariant-loop-p l = spots_below l.placed l.p ≡ Some l.spots.items
