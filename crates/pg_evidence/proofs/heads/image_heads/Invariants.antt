use Rattle.std.proofs.Common.{◌≡◌, map, take}
use Rattle.pg_evidence.specs.Verdicts.{image_head}
use Rattle.pg_evidence.proofs.heads.image_heads.Given as goal

abbrev pub invariant-loop-claim : goal.invariant-loop-claim
invariant-loop-claim l = l.heads.items ≡ map image_head (take l.claim-index l.claim-items)
