use Rattle.std.proofs.Common.{take}
use Rattle.pg_unfold.specs.Gathered.{AreGathered}
use Rattle.pg_unfold.proofs.unfolding.unfold_claims.Given as goal

abbrev pub invariant-loop-i : goal.invariant-loop-i
invariant-loop-i l = AreGathered l.g (take l.i l.claims) l.gathered
