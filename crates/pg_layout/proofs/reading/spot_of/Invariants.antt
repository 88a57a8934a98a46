use Rattle.std.proofs.Common.{◌≡◌, drop}
use Rattle.pg_layout.specs.LayoutFile.{spot_of}
use Rattle.pg_layout.proofs.reading.spot_of.Given as goal

abbrev pub invariant-loop-q : goal.invariant-loop-q
invariant-loop-q l = spot_of (drop l.q-index l.placed) l.point ≡ spot_of l.placed l.point
