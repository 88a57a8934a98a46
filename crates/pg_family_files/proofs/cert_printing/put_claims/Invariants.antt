use Rattle.std.proofs.Common.{◌≡◌, ◌++◌, take}
use Rattle.std.specs.Prelude.{string_bytes}
use Rattle.pg_family_files.proofs.Common.{flat_map, spelled}
use Rattle.pg_family_files.specs.SpanCertPrint.{claim_lines}
use Rattle.pg_family_files.proofs.cert_printing.put_claims.Given as goal

abbrev pub invariant-loop-claim : goal.invariant-loop-claim
invariant-loop-claim l = string_bytes l.out ≡ string_bytes l.fn.out
    ++ flat_map (λ c. flat_map spelled (claim_lines c)) (take l.claim-index l.claims)
