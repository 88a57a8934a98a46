use Rattle.std.proofs.Common.{◌≡◌, take}
use Rattle.pg_files.proofs.sets.as_points.Given as goal

abbrev pub invariant-loop-n : goal.invariant-loop-n
invariant-loop-n l = l.points.items ≡ take l.n-index l.numbers
