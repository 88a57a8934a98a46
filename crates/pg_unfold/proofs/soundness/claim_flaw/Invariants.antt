use Rattle.pg_unfold.specs.Flaws.{AreSoundBefore}
use Rattle.pg_unfold.proofs.soundness.claim_flaw.Given as goal

abbrev pub invariant-loop-k : goal.invariant-loop-k
invariant-loop-k l = AreSoundBefore l.g l.claim l.k
