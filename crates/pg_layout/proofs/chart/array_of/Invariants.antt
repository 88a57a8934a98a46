use Rattle.std.proofs.Common.{◌≡◌, length, take}
use Rattle.pg_layout.specs.declared.chart.TheConstants.{MAX_CHARTED}
use Rattle.pg_layout.proofs.chart.array_of.Given as goal

abbrev pub invariant-loop-i : goal.invariant-loop-i
invariant-loop-i l =
    (length l.found ≡ MAX_CHARTED) × (take l.i l.found ≡ take l.i l.spots)
