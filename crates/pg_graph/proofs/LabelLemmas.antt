-- Labels of vertices when one more edge joins them.
use Rattle.std.proofs.Common.{◌≡◌, ℕ, ◌<◌, ◌↔◌, Bool, ◌⊎◌, eqb, cond, refl, inl, inr, sym, ap, ◌∙◌}
use Rattle.pg_graph.proofs.Common.{cases_eq, eq-eqb, ne_eqb, plus, plus_old, plus_new}
use Rattle.pg_graph.specs.Walks.{IsJoined}
use Rattle.pg_graph.proofs.WalkLemmas.{joined_on, joined_edge, joined_edge_back, joined_more}
use Rattle.pg_graph.proofs.WalkLemmas.{by_one}

-- the label lo in place of the label hi
module _ (lo hi : ℕ) where
  abbrev pub lowered : ℕ → ℕ
  lowered x = cond (eqb x hi) lo x

  lowered-hi : (x : ℕ) → x ≡ hi → lowered x ≡ lo
  lowered-hi x e = rw (eq-eqb x hi e) refl

  lowered-other : (x : ℕ) → (x ≡ hi → ⊥) → lowered x ≡ x
  lowered-other x d = rw (ne_eqb x hi d) refl

  lowered-lo : (x : ℕ) → x ≡ lo → lowered x ≡ lo
  lowered-lo x e = elim (cases_eq x hi) [ inl h ↦ lowered-hi x h | inr d ↦ lowered-other x d ∙ e ]

  lowered-cases : (x y : ℕ)
      → lowered x ≡ lowered y
      → (x ≡ y) ⊎ (((x ≡ lo) × (y ≡ hi)) ⊎ ((x ≡ hi) × (y ≡ lo)))
  lowered-cases x y e =
      elim (cases_eq x hi) [
        | inl p ↦ elim (cases_eq y hi) [
          | inl q ↦ inl (p ∙ sym q)
          | inr q ↦ inr (inr (p, sym (lowered-other y q) ∙ (sym e ∙ lowered-hi x p)))
        ]
        | inr p ↦ elim (cases_eq y hi) [
          | inl q ↦ inr (inl (sym (lowered-other x p) ∙ (e ∙ lowered-hi y q), q))
          | inr q ↦ inl (sym (lowered-other x p) ∙ (e ∙ lowered-other y q))
        ]
      ]

-- labels for the vertices below n, one of the ends of edge k with lo and the other with hi
module _ (a b : ℕ → ℕ) (set : ℕ → Bool) (n k lo hi : ℕ) (r : ℕ → ℕ)
    (same : (u v : ℕ) → u < n → v < n → (r u ≡ r v) ↔ IsJoined a b set u v) (la : a k < n)
    (lb : b k < n)
    (ends : ((r (a k) ≡ lo) × (r (b k) ≡ hi)) ⊎ ((r (a k) ≡ hi) × (r (b k) ≡ lo))) where
  grown : (u v : ℕ) → IsJoined a b set u v → IsJoined a b (plus set k) u v
  grown u v = joined_more a b set (plus set k) u v (λ z h. plus_old set k z h)

  over : (u v : ℕ) → u < n → v < n → r u ≡ r (a k) → r v ≡ r (b k) → IsJoined a b (plus set k) u v
  over u v lu lv p q =
      joined_on a b (plus set k) u (a k) v (grown u (a k) ((same u (a k) lu la).0 p))
      (joined_on a b (plus set k) (a k) (b k) v
      (joined_edge a b (plus set k) k (plus_new set k k refl))
      (grown (b k) v ((same (b k) v lb lv).0 (sym q))))

  back : (u v : ℕ) → u < n → v < n → r u ≡ r (b k) → r v ≡ r (a k) → IsJoined a b (plus set k) u v
  back u v lu lv p q =
      joined_on a b (plus set k) u (b k) v (grown u (b k) ((same u (b k) lu lb).0 p))
      (joined_on a b (plus set k) (b k) (a k) v
      (joined_edge_back a b (plus set k) k (plus_new set k k refl))
      (grown (a k) v ((same (a k) v la lv).0 (sym q))))

  pub lowered-joined : (u v : ℕ)
      → u < n
      → v < n
      → lowered lo hi (r u) ≡ lowered lo hi (r v)
      → IsJoined a b (plus set k) u v
  lowered-joined u v lu lv e =
      elim (lowered-cases lo hi (r u) (r v) e) [
        | inl p ↦ grown u v ((same u v lu lv).0 p)
        | inr d ↦ elim d [
          | inl p ↦ elim ends [
            | inl q ↦ over u v lu lv (p.0 ∙ sym q.0) (p.1 ∙ sym q.1)
            | inr q ↦ back u v lu lv (p.0 ∙ sym q.1) (p.1 ∙ sym q.0)
          ]
          | inr p ↦ elim ends [
            | inl q ↦ back u v lu lv (p.0 ∙ sym q.1) (p.1 ∙ sym q.0)
            | inr q ↦ over u v lu lv (p.0 ∙ sym q.0) (p.1 ∙ sym q.1)
          ]
        ]
      ]

  one : lowered lo hi (r (a k)) ≡ lowered lo hi (r (b k))
  one = elim ends [
    | inl p ↦ lowered-lo lo hi (r (a k)) p.0 ∙ sym (lowered-hi lo hi (r (b k)) p.1)
    | inr p ↦ lowered-hi lo hi (r (a k)) p.0 ∙ sym (lowered-lo lo hi (r (b k)) p.1)
  ]

  pub joined-lowered : (u v : ℕ)
      → u < n
      → v < n
      → IsJoined a b (plus set k) u v
      → lowered lo hi (r u) ≡ lowered lo hi (r v)
  joined-lowered u v lu lv j =
      elim (by_one a b set k u v j) [
        | inl p ↦ ap (lowered lo hi) ((same u v lu lv).1 p)
        | inr d ↦ elim d [
          | inl p ↦ ap (lowered lo hi) ((same u (a k) lu la).1 p.0)
              ∙ (one ∙ ap (lowered lo hi) ((same (b k) v lb lv).1 p.1))
          | inr p ↦ ap (lowered lo hi) ((same u (b k) lu lb).1 p.0)
              ∙ (sym one ∙ ap (lowered lo hi) ((same (a k) v la lv).1 p.1))
        ]
      ]
