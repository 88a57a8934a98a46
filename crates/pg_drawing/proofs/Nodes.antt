-- Nodes that a certificate has.
use Rattle.std.proofs.Common.{◌≡◌, ℕ, ◌<◌, ◌≤◌, length, Some, slice_get, sym, subst, inl, inr}
use Rattle.std.proofs.Common.{arith}
use Rattle.std.proofs.lemmas.List.Elements.{All-get_or}
use Rattle.std.proofs.lemmas.Option.{get_or_from_slice_get, slice_get_cases, slice_get_within}
use Rattle.pg_cert.specs.Limits.{IsClaim}
use Rattle.pg_cert.specs.declared.cert.Claim.{Claim}
use Rattle.pg_drawing.proofs.Common.{Cert, IsWithinLimits}
use Rattle.pg_drawing.specs.Due.{LacksNamed}
use Rattle.pg_drawing.specs.declared.name.NodeName.{NodeName}

-- each claim of a certificate within the limits has a first node
pub has_first : (c : Cert) (name : NodeName) (w : Claim)
    → IsWithinLimits c
    → slice_get c.claims name.claim ≡ Some w
    → name.node ≡ 0
    → LacksNamed c name
    → ⊥
has_first c name w limits at first lacks =
    let claim : IsClaim w = subst IsClaim (get_or_from_slice_get c.claims name.claim w w at)
    (All-get_or IsClaim c.claims name.claim w
    (slice_get_within c.claims name.claim w at) limits.claims) in
    let some : 0 < length w.nodes = claim.some in
    elim ((slice_get_cases w.nodes 0).1) [
      | inl there ↦ lacks w there.0 (record {
        claim_at = at;
        node_at = subst (λ (k : ℕ). slice_get w.nodes k ≡ Some there.0) (sym first) there.2;
      })
      | inr past ↦
          let none : length w.nodes ≤ 0 = past.0 in
          omega (arith, some, none)
    ]
