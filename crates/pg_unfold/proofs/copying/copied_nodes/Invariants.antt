use Rattle.pg_unfold.specs.Layouts.{AreCopiedBelow}
use Rattle.pg_unfold.proofs.copying.copied_nodes.Given as goal

abbrev pub invariant-loop-key : goal.invariant-loop-key
invariant-loop-key l = AreCopiedBelow l.g l.claim l.layout l.key l.copied.items
