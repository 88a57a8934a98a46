use Rattle.std.proofs.Common.{◌≡◌, ◌≤◌, drop, max}
use Rattle.pg_characters.specs.Charts.{columns_in}
use Rattle.pg_characters.proofs.charts.columns_in.Given as goal

abbrev pub invariant-loop-spot : goal.invariant-loop-spot
invariant-loop-spot l = (max l.count (columns_in (drop l.spot-index l.spots)) ≡ columns_in l.spots)
    × (l.count ≤ 65536)
