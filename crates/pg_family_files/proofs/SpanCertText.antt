-- The text of claims, claim by claim and line by line.
use Rattle.std.proofs.Common.{◌≡◌, List, [], ◌∷◌, ◌++◌, refl, ap}
use Rattle.pg_family_files.proofs.Common.{flat_map, flat_map-append, Bytes, spelled, SpanClaim}
use Rattle.pg_family_files.specs.SpanCertPrint.{claim_lines}

pub claims_text : (cs : List SpanClaim)
    → flat_map spelled (flat_map claim_lines cs)
    ≡ flat_map (λ c. flat_map spelled (claim_lines c)) cs
claims_text [] = refl
claims_text (c ∷ cs) = simp flat_map-append
    (ap (λ (t : Bytes). flat_map spelled (claim_lines c) ++ t) (claims_text cs))
