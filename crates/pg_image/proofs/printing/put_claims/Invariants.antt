use Rattle.std.proofs.Common.{◌≡◌, ◌++◌, take}
use Rattle.std.specs.List.{flat_map}
use Rattle.pg_image.specs.Print.{image_claim_text}
use Rattle.pg_image.proofs.printing.put_claims.Given as goal

abbrev pub invariant-loop-claim : goal.invariant-loop-claim
invariant-loop-claim l =
    l.out.items ≡ l.fn.out.items ++ flat_map image_claim_text (take l.claim-index l.claims)
