use Rattle.std.proofs.Common.{◌≡◌, ◌++◌, take}
use Rattle.std.specs.Prelude.{string_bytes}
use Rattle.std.specs.List.{flat_map}
use Rattle.pg_cert.specs.Print.{claim_text}
use Rattle.pg_cert.proofs.printing.put_claims.Given as goal

abbrev pub invariant-loop-claim : goal.invariant-loop-claim
invariant-loop-claim l =
    string_bytes l.out ≡ string_bytes l.fn.out ++ flat_map claim_text (take l.claim-index l.claims)
