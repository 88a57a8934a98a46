use Rattle.std.proofs.Common.{◌≡◌, take}
use Rattle.pg_cert.specs.Parts.{all_parts}
use Rattle.pg_check.proofs.TakenParts.{HasTaken}
use Rattle.pg_check.proofs.feeding.feed_claims.Given as goal

abbrev pub invariant-loop-claim : goal.invariant-loop-claim
invariant-loop-claim l = record {
  game : l.checking.game ≡ l.fn.checking.game;
  taken : HasTaken l.fn.checking l.checking (all_parts (take l.claim-index l.claims));
}
