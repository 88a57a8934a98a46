-- A certificate as the list of its parts, in the order of its lines.
use Rattle.std.specs.Prelude.{◌≡◌, List, ◌∷◌, ◌++◌, length, map}
use Rattle.std.specs.List.{flat_map}
use Rattle.pg_cert.specs.Limits.{IsWithinLimits}
use Rattle.pg_cert.specs.declared.cert.Cert.{Cert}
use Rattle.pg_cert.specs.declared.cert.Claim.{Claim}
use Rattle.pg_cert.specs.declared.part.Part.{Part}
use Rattle.pg_cert.specs.declared.part.Part.TheVariants as parts

-- a claim with the number of its nodes, and then the nodes
abbrev pub claim_parts : Claim → List Part
claim_parts c = parts.Claim c.turn c.side c.goal (length c.nodes) ∷ map parts.Node c.nodes

-- the parts of several claims
abbrev pub all_parts : List Claim → List Part
all_parts claims = flat_map claim_parts claims

-- the parts of a certificate
abbrev pub parts_of : Cert → List Part
parts_of cert = all_parts cert.claims

-- the parts begin those of a certificate within the ranges, orders and limits
pub record BeginCert (fed : List Part) : Type 0 where
  pub cert : Cert
  pub limits : IsWithinLimits cert
  pub rest : List Part
  pub parts : fed ++ rest ≡ parts_of cert
