use Rattle.std.proofs.Common.{take}
use Rattle.pg_pns.specs.Descent.{HasOpen}
use Rattle.pg_pns.proofs.descent.first_open.Given as goal

abbrev pub invariant-loop-m : goal.invariant-loop-m
invariant-loop-m l = HasOpen (take l.m-index l.moves) l.answers → ⊥
