use Rattle.std.specs.Prelude.{⊤}
use Rattle.pg_maps.proofs.telling.told_by.Given as goal

abbrev pub invariant-loop-a : goal.invariant-loop-a
invariant-loop-a l = ⊤
