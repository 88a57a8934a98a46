use Rattle.std.proofs.Common.{take}
use Rattle.pg_unfold.specs.Layouts.{AreLaid}
use Rattle.pg_unfold.proofs.laying.lay_out_claims.Given as goal

abbrev pub invariant-loop-i : goal.invariant-loop-i
invariant-loop-i l = AreLaid (take l.i l.claims) l.laid
