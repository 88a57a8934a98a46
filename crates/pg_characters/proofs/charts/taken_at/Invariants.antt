use Rattle.std.proofs.Common.{◌≡◌, drop}
use Rattle.pg_characters.specs.Charts.{taken_from}
use Rattle.pg_characters.proofs.charts.taken_at.Given as goal

abbrev pub invariant-loop-i : goal.invariant-loop-i
invariant-loop-i l = taken_from l.strip l.line l.column l.i (drop l.i l.spots)
    ≡ taken_from l.strip l.line l.column 0 l.spots
