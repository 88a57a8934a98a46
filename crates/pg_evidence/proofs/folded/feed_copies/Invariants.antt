use Rattle.std.proofs.Common.{◌≡◌}
use Rattle.pg_evidence.specs.Feeding.{HasFed}
use Rattle.pg_evidence.proofs.folded.feed_copies.Given as goal

abbrev pub invariant-loop-key : goal.invariant-loop-key
invariant-loop-key l = record {
  game : l.checking.game ≡ l.fn.checking.game;
  fed : HasFed l.game l.claim l.layout l.fn.checking l.key l.checking;
}
