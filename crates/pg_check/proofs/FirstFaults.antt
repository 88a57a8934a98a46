-- A valid certificate has no first fault, and any other has one at most.
use Rattle.std.proofs.Common.{◌≡◌, ◌∙◌, ℕ, ◌<◌, Some, slice_get, sym, subst, inl, inr, arith}
use Rattle.pg_check.proofs.Common.{cases_order, Game, Cert, Claim, Node, AreSoundBefore}
use Rattle.pg_check.proofs.Common.{IsFirstFault, IsLeastFault, IsValid}

pub no_fault : (g : Game) (c : Cert) → IsValid g c → (i k w : ℕ) → IsFirstFault g c i k w → ⊥
no_fault g c valid i k w h =
    h.least.fails (valid i h.faulty h.claim_at k h.faulty_node h.node_at h.fault)

-- numbers of which neither is less are one
tied : (m n : ℕ) → (m < n → ⊥) → (n < m → ⊥) → m ≡ n
tied m n less more = elim (cases_order m n) [
  | inl e ↦ e
  | inr h ↦ elim h [
    | inl lt ↦ absurd (less lt)
    | inr gt ↦ absurd (more gt)
  ]
]

module _ (g : Game) (c : Cert) where
  claims_tie : (i k w i' k' w' : ℕ)
      → IsFirstFault g c i k w
      → IsFirstFault g c i' k' w'
      → i < i'
      → ⊥
  claims_tie i k w i' k' w' a b lt =
      a.least.fails (b.claims_before i a.faulty lt a.claim_at k a.faulty_node a.node_at a.fault)

  same_claim : (i k w k' w' : ℕ)
      → (a : IsFirstFault g c i k w) (b : IsFirstFault g c i k' w') → b.faulty ≡ a.faulty
  same_claim i k w k' w' a b =
      let same : Some b.faulty ≡ Some a.faulty = sym b.claim_at ∙ a.claim_at in
      cc

  nodes_tie : (i k w k' w' : ℕ) → IsFirstFault g c i k w → IsFirstFault g c i k' w' → k < k' → ⊥
  nodes_tie i k w k' w' a b lt = a.least.fails (subst (λ (d : Claim). AreSoundBefore g d k')
      (same_claim i k w k' w' a b) b.nodes_before k a.faulty_node lt a.node_at a.fault)

  numbers_tie : (i k w w' : ℕ) → IsFirstFault g c i k w → IsFirstFault g c i k w' → w < w' → ⊥
  numbers_tie i k w w' a b lt =
      let claims = same_claim i k w k w' a b in
      let there : slice_get a.faulty.nodes k ≡ Some b.faulty_node =
      subst (λ (d : Claim). slice_get d.nodes k ≡ Some b.faulty_node) claims b.node_at in
      let same : Some b.faulty_node ≡ Some a.faulty_node = sym there ∙ a.node_at in
      let same_node : b.faulty_node ≡ a.faulty_node = cc in
      let least : IsLeastFault g a.faulty k a.faulty_node b.fault =
      subst (λ (n : Node). IsLeastFault g a.faulty k n b.fault) same_node
      (subst (λ (d : Claim). IsLeastFault g d k b.faulty_node b.fault) claims b.least) in
      a.least.fails (least.lesser a.fault (omega (arith, a.number, b.number, lt)))

  pub one_fault : (i k w i' k' w' : ℕ)
      → IsFirstFault g c i k w
      → IsFirstFault g c i' k' w'
      → (i ≡ i') × (k ≡ k') × (w ≡ w')
  one_fault i k w i' k' w' a b =
      let claims : i ≡ i' =
      tied i i' (claims_tie i k w i' k' w' a b) (claims_tie i' k' w' i k w b a) in
      let there : IsFirstFault g c i k' w' =
      subst (λ (j : ℕ). IsFirstFault g c j k' w') (sym claims) b in
      let nodes : k ≡ k' =
      tied k k' (nodes_tie i k w k' w' a there) (nodes_tie i k' w' k w there a) in
      let here : IsFirstFault g c i k w' =
      subst (λ (j : ℕ). IsFirstFault g c i j w') (sym nodes) there in
      (claims, nodes, tied w w' (numbers_tie i k w w' a here) (numbers_tie i k w' w here a))
