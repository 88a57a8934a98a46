use Rattle.std.proofs.Common.{◌≡◌, ◌≤◌, drop, max}
use Rattle.pg_characters.specs.Charts.{lines_in}
use Rattle.pg_characters.proofs.charts.lines_in.Given as goal

abbrev pub invariant-loop-spot : goal.invariant-loop-spot
invariant-loop-spot l = (max l.count (lines_in (drop l.spot-index l.spots)) ≡ lines_in l.spots)
    × (l.count ≤ 65536)
