use Rattle.std.proofs.Common.{◌≡◌, length}
use Rattle.pg_judge.proofs.Steps.{HasFed}
use Rattle.pg_judge.proofs.feeding.feed_piece.Given as goal

abbrev pub invariant-loop-rest : goal.invariant-loop-rest
invariant-loop-rest l = record {
  game : l.told.checking.game ≡ l.fn.told.checking.game;
  fed : HasFed l.fn.reader l.fn.told l.reader l.told l.piece l.rest;
}

abbrev pub decreases-loop-rest : goal.decreases-loop-rest
decreases-loop-rest l = length l.rest
