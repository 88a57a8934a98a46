use Rattle.std.proofs.Common.{◌≡◌, take}
use Rattle.pg_evidence.specs.Feeding.{AreFed}
use Rattle.pg_evidence.proofs.folded.feed_claims.Given as goal

abbrev pub invariant-loop-i : goal.invariant-loop-i
invariant-loop-i l = record {
  game : l.checking.game ≡ l.fn.checking.game;
  fed : AreFed l.game (take l.i l.certificate.claims) (take l.i l.layouts) l.sources.items
      l.checking;
}
