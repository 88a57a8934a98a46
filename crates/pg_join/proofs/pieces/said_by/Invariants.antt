use Rattle.pg_backing.specs.Spans.{IsWithin}
use Rattle.pg_base.specs.declared.score.Score.{Score}
use Rattle.pg_join.specs.Pieces.{AreReached}
use Rattle.pg_join.proofs.pieces.said_by.Given as goal

abbrev pub invariant-loop-claim : goal.invariant-loop-claim
invariant-loop-claim l = (v : Score) → AreReached l.claims l.turn v → IsWithin v l.span
