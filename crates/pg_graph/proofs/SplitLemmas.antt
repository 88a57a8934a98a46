-- Edges with exactly one end among the vertices below a root.
use Rattle.std.proofs.Common.{◌≡◌, ℕ, ◌<◌, ◌↔◌, Bool, not, IsTrue, eqb, List, length, refl, inl}
use Rattle.std.proofs.Common.{inr, sym, ◌∙◌}
use Rattle.pg_graph.proofs.Common.{beq, cases_eq, eq-eqb, ne_eqb}
use Rattle.pg_graph.specs.Graph.{IsJoinedIn, first_end_of, second_end_of}
use Rattle.pg_graph.specs.Joiner.{Crosses}
use Rattle.pg_graph.specs.Labels.{IsLabelling, IsSplit}
use Rattle.pg_graph.specs.Roots.{root_of}
use Rattle.pg_graph.specs.declared.graph.Graph.{Graph}

-- the test says that exactly one of two labels is this one
pub split_test : (x y label : ℕ)
    → IsTrue (not (beq (eqb x label) (eqb y label))) ↔ IsSplit x y label
split_test x y label =
    elim (cases_eq x label) [
      | inl e ↦ elim (cases_eq y label) [
        | inl f ↦ rw (eq-eqb x label e, eq-eqb y label f)
            (λ h. absurd (cc), λ s. elim s [ inl p ↦ absurd (p.1 f) | inr p ↦ absurd (p.0 e) ])
        | inr f ↦ rw (eq-eqb x label e, ne_eqb y label f) (λ h. inl (e, f), λ s. refl)
      ]
      | inr e ↦ elim (cases_eq y label) [
        | inl f ↦ rw (ne_eqb x label e, eq-eqb y label f) (λ h. inr (e, f), λ s. refl)
        | inr f ↦ rw (ne_eqb x label e, ne_eqb y label f)
            (λ h. absurd (cc), λ s. elim s [ inl p ↦ absurd (e p.0) | inr p ↦ absurd (f p.1) ])
      ]
    ]

module _ (g : Graph) (set : ℕ → Bool) (parents : List ℕ) (u inside : ℕ)
    (labelled : IsLabelling (first_end_of g) (second_end_of g) set parents)
    (within : u < length parents) (root : root_of parents u ≡ inside) where
  joined_inside : (v : ℕ) → v < length parents → (root_of parents v ≡ inside) ↔ IsJoinedIn g set u v
  joined_inside v l =
      let q = labelled.same u v within l in
      (λ e. q.0 (root ∙ sym e), λ j. sym (q.1 j) ∙ root)

  pub crosses_split : (k : ℕ)
      → first_end_of g k < length parents
      → second_end_of g k < length parents
      → IsSplit (root_of parents (first_end_of g k)) (root_of parents (second_end_of g k)) inside
      → Crosses g set u k
  crosses_split k la lb s =
      let a = joined_inside (first_end_of g k) la in
      let b = joined_inside (second_end_of g k) lb in
      elim s [ inl p ↦ inl (a.0 p.0, λ j. p.1 (b.1 j)) | inr p ↦ inr (λ j. p.0 (a.1 j), b.0 p.1) ]

  pub split_crosses : (k : ℕ)
      → first_end_of g k < length parents
      → second_end_of g k < length parents
      → Crosses g set u k
      → IsSplit (root_of parents (first_end_of g k)) (root_of parents (second_end_of g k)) inside
  split_crosses k la lb s =
      let a = joined_inside (first_end_of g k) la in
      let b = joined_inside (second_end_of g k) lb in
      elim s [ inl p ↦ inl (a.1 p.0, λ e. p.1 (b.0 e)) | inr p ↦ inr (λ e. p.0 (a.0 e), b.1 p.1) ]
