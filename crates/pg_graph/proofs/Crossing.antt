-- Edges that leave a set of vertices.
use Rattle.std.proofs.Common.{◌≡◌, ◌≢◌, ℕ, Bool, true, false, List, [], ◌∷◌, inl, inr, sym, ◌∙◌}
use Rattle.std.proofs.Common.{subst}
use Rattle.pg_graph.proofs.Common.{both_ways, cases_Bool, either, either_cases}
use Rattle.pg_graph.specs.Walks.{IsWalk, IsJoined}

module _ (a b : ℕ → ℕ) where
  -- a walk that leaves the vertices that pass a test, which no edge of s leaves, has an edge of the
  -- other set that leaves them
  crossing_walk : (s set : ℕ → Bool) (p : ℕ → Bool)
      → ((k : ℕ) → s k ≡ true → p (a k) ≡ p (b k))
      → (ks : List ℕ) (u v : ℕ) → IsWalk a b (either s set) ks u v
      → p u ≡ true
      → p v ≡ false
      → (k : ℕ) × (set k ≡ true) × (p (a k) ≢ p (b k))
  crossing_walk s set p same [] u v h pu pv = absurd (both_ways _ pv (subst (λ z. p z ≡ true) h pu))
  crossing_walk s set p same (k ∷ ks) u v h pu pv =
      elim h.1 [
        | inl q ↦ elim (cases_Bool (p (b k))) [
          | inl t ↦ crossing_walk s set p same ks (b k) v q.1 t pv
          | inr o ↦ elim (either_cases s set k h.0) [
            | inl m ↦ absurd (both_ways _ o (sym (same k m) ∙ subst (λ z. p z ≡ true) (sym q.0) pu))
            | inr m ↦ (k, m, λ e. both_ways _ o (sym e ∙ subst (λ z. p z ≡ true) (sym q.0) pu))
          ]
        ]
        | inr q ↦ elim (cases_Bool (p (a k))) [
          | inl t ↦ crossing_walk s set p same ks (a k) v q.1 t pv
          | inr o ↦ elim (either_cases s set k h.0) [
            | inl m ↦ absurd (both_ways _ o (same k m ∙ subst (λ z. p z ≡ true) (sym q.0) pu))
            | inr m ↦ (k, m, λ e. both_ways _ o (e ∙ subst (λ z. p z ≡ true) (sym q.0) pu))
          ]
        ]
      ]

  pub find_crossing : (s set : ℕ → Bool) (p : ℕ → Bool) (u v : ℕ)
      → ((k : ℕ) → s k ≡ true → p (a k) ≡ p (b k))
      → IsJoined a b (either s set) u v
      → p u ≡ true
      → p v ≡ false
      → (k : ℕ) × (set k ≡ true) × (p (a k) ≢ p (b k))
  find_crossing s set p u v same j pu pv = crossing_walk s set p same j.edges u v j.walk pu pv
