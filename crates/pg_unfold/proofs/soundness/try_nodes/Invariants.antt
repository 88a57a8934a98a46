use Rattle.std.proofs.Common.{take}
use Rattle.pg_unfold.specs.Flaws.{AreSound}
use Rattle.pg_unfold.proofs.soundness.try_nodes.Given as goal

abbrev pub invariant-loop-i : goal.invariant-loop-i
invariant-loop-i l = AreSound l.g (take l.i l.claims)
