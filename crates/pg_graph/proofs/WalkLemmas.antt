-- Vertices that walks join, and the test that says the same.
use Rattle.std.proofs.Common.{◌≡◌, ℕ, ◌<◌, Bool, true, false, ◌⊎◌, List, [], ◌∷◌, ◌++◌, refl, arith}
use Rattle.std.proofs.Common.{inl, inr, sym, ap, ◌∙◌, subst, zero, suc}
use Rattle.pg_graph.proofs.Common.{cases_Bool, both_ways, false_from_ne_true, and_parts, and_from}
use Rattle.pg_graph.proofs.Common.{or_cases, or_left, or_right, eqb-true, eq-eqb, plus, below}
use Rattle.pg_graph.proofs.Common.{IsWithin, plus_cases, sets, below_parts, below_from}
use Rattle.pg_graph.specs.Walks.{IsWalk, IsJoined, joins}

module _ (a b : ℕ → ℕ) where
  walk-append : (set : ℕ → Bool) (ks ls : List ℕ) (u v w : ℕ)
      → IsWalk a b set ks u v
      → IsWalk a b set ls v w
      → IsWalk a b set (ks ++ ls) u w
  walk-append set [] ls u v w h g = subst (λ k. IsWalk a b set ls k w) (sym h) g
  walk-append set (k ∷ ks) ls u v w h g = (
    h.0,
    elim h.1 [
      | inl p ↦ inl (p.0, walk-append set ks ls (b k) v w p.1 g)
      | inr p ↦ inr (p.0, walk-append set ks ls (a k) v w p.1 g)
    ],
  )

  pub joined_self : (set : ℕ → Bool) (u : ℕ) → IsJoined a b set u u
  joined_self set u = record { edges = []; walk = refl }

  pub joined_on : (set : ℕ → Bool) (u v w : ℕ)
      → IsJoined a b set u v
      → IsJoined a b set v w
      → IsJoined a b set u w
  joined_on set u v w p q = record {
    edges = p.edges ++ q.edges;
    walk = walk-append set p.edges q.edges u v w p.walk q.walk;
  }

  pub joined_edge : (set : ℕ → Bool) (k : ℕ) → set k ≡ true → IsJoined a b set (a k) (b k)
  joined_edge set k h = record { edges = k ∷ []; walk = (h, inl (refl, refl)) }

  pub joined_edge_back : (set : ℕ → Bool) (k : ℕ) → set k ≡ true → IsJoined a b set (b k) (a k)
  joined_edge_back set k h = record { edges = k ∷ []; walk = (h, inr (refl, refl)) }

  -- a walk over edges whose ends another set joins
  joined_over : (set by : ℕ → Bool)
      → ((k : ℕ) → set k ≡ true → IsJoined a b by (a k) (b k))
      → ((k : ℕ) → set k ≡ true → IsJoined a b by (b k) (a k))
      → (ks : List ℕ) (u v : ℕ) → IsWalk a b set ks u v
      → IsJoined a b by u v
  joined_over set by there back [] u v h = subst (λ k. IsJoined a b by u k) h (joined_self by u)
  joined_over set by there back (k ∷ ks) u v h =
      elim h.1 [
        | inl p ↦ subst (λ z. IsJoined a b by z v) p.0
            (joined_on by (a k) (b k) v (there k h.0)
            (joined_over set by there back ks (b k) v p.1))
        | inr p ↦ subst (λ z. IsJoined a b by z v) p.0
            (joined_on by (b k) (a k) v (back k h.0) (joined_over set by there back ks (a k) v p.1))
      ]

  joined_back_walk : (set : ℕ → Bool) (ks : List ℕ) (u v : ℕ)
      → IsWalk a b set ks u v
      → IsJoined a b set v u
  joined_back_walk set [] u v h = subst (λ k. IsJoined a b set k u) h (joined_self set u)
  joined_back_walk set (k ∷ ks) u v h =
      elim h.1 [
        | inl p ↦ subst (λ z. IsJoined a b set v z) p.0
            (joined_on set v (b k) (a k) (joined_back_walk set ks (b k) v p.1)
            (joined_edge_back set k h.0))
        | inr p ↦ subst (λ z. IsJoined a b set v z) p.0
            (joined_on set v (a k) (b k) (joined_back_walk set ks (a k) v p.1)
            (joined_edge set k h.0))
      ]

  pub joined_back : (set : ℕ → Bool) (u v : ℕ) → IsJoined a b set u v → IsJoined a b set v u
  joined_back set u v p = joined_back_walk set p.edges u v p.walk

  pub joined_by : (set by : ℕ → Bool) (u v : ℕ)
      → ((k : ℕ) → set k ≡ true → IsJoined a b by (a k) (b k))
      → IsJoined a b set u v
      → IsJoined a b by u v
  joined_by set by u v there p =
      joined_over set by there (λ k h. joined_back by (a k) (b k) (there k h)) p.edges u v p.walk

  pub joined_more : (set by : ℕ → Bool) (u v : ℕ)
      → IsWithin set by
      → IsJoined a b set u v
      → IsJoined a b by u v
  joined_more set by u v w = joined_by set by u v (λ k h. joined_edge by k (w k h))

  -- without an edge a vertex is joined to itself alone
  pub joined_none : (set : ℕ → Bool)
      → ((k : ℕ) → set k ≡ false)
      → (u v : ℕ) → IsJoined a b set u v
      → u ≡ v
  joined_none set none u v p = stays p.edges u v p.walk
    where
      stays : (ks : List ℕ) (u v : ℕ) → IsWalk a b set ks u v → u ≡ v
      stays [] u v h = h
      stays (k ∷ ks) u v h = absurd (both_ways _ (none k) h.0)

  -- what one more edge joins
  abbrev pub ByOne : (ℕ → Bool) → ℕ → ℕ → ℕ → Type 0
  ByOne set k u v = IsJoined a b set u v
      ⊎ ((IsJoined a b set u (a k) × IsJoined a b set (b k) v)
      ⊎ (IsJoined a b set u (b k) × IsJoined a b set (a k) v))

  by_one_after : (set : ℕ → Bool) (k u w v : ℕ)
      → IsJoined a b set u w
      → ByOne set k w v
      → ByOne set k u v
  by_one_after set k u w v j h =
      elim h [
        | inl p ↦ inl (joined_on set u w v j p)
        | inr q ↦ elim q [
          | inl p ↦ inr (inl (joined_on set u w (a k) j p.0, p.1))
          | inr p ↦ inr (inr (joined_on set u w (b k) j p.0, p.1))
        ]
      ]

  by_one_through : (set : ℕ → Bool) (k v : ℕ) → ByOne set k (b k) v → ByOne set k (a k) v
  by_one_through set k v h =
      elim h [
        | inl p ↦ inr (inl (joined_self set (a k), p))
        | inr q ↦ elim q [
          | inl p ↦ inr (inl (joined_self set (a k), p.1))
          | inr p ↦ inl p.1
        ]
      ]

  by_one_back : (set : ℕ → Bool) (k v : ℕ) → ByOne set k (a k) v → ByOne set k (b k) v
  by_one_back set k v h =
      elim h [
        | inl p ↦ inr (inr (joined_self set (b k), p))
        | inr q ↦ elim q [
          | inl p ↦ inl p.1
          | inr p ↦ inr (inr (joined_self set (b k), p.1))
        ]
      ]

  by_one_walk : (set : ℕ → Bool) (k : ℕ) (ls : List ℕ) (u v : ℕ)
      → IsWalk a b (plus set k) ls u v
      → ByOne set k u v
  by_one_walk set k [] u v h = inl (subst (λ z. IsJoined a b set u z) h (joined_self set u))
  by_one_walk set k (l ∷ ls) u v h =
      elim (plus_cases set k l h.0) [
        | inl m ↦ elim h.1 [
          | inl p ↦ subst (λ z. ByOne set k z v) p.0
              (by_one_after set k (a l) (b l) v (joined_edge set l m)
              (by_one_walk set k ls (b l) v p.1))
          | inr p ↦ subst (λ z. ByOne set k z v) p.0
              (by_one_after set k (b l) (a l) v (joined_edge_back set l m)
              (by_one_walk set k ls (a l) v p.1))
        ]
        | inr e ↦ elim h.1 [
          | inl p ↦ subst (λ z. ByOne set k z v) (ap a e ∙ p.0)
              (by_one_through set k v
              (subst (λ z. ByOne set k z v) (ap b (sym e)) (by_one_walk set k ls (b l) v p.1)))
          | inr p ↦ subst (λ z. ByOne set k z v) (ap b e ∙ p.0)
              (by_one_back set k v
              (subst (λ z. ByOne set k z v) (ap a (sym e)) (by_one_walk set k ls (a l) v p.1)))
        ]
      ]

  pub by_one : (set : ℕ → Bool) (k u v : ℕ) → IsJoined a b (plus set k) u v → ByOne set k u v
  by_one set k u v p = by_one_walk set k p.edges u v p.walk

  -- the test says what walks say
  pub joins_sound : (set : ℕ → Bool) (n u v : ℕ) → joins a b set n u v ≡ true → IsJoined a b set u v
  unfolding joins
  joins_sound set zero u v h =
      subst (λ z. IsJoined a b set u z) (eqb-true u v h) (joined_self set u)
  joins_sound set (suc k) u v h =
      elim (or_cases _ _ h) [
        | inl p ↦ joins_sound set k u v p
        | inr q ↦
            let r = and_parts _ _ q in
            elim (or_cases _ _ r.1) [
              | inl s ↦
                  let t = and_parts _ _ s in
                  joined_on set u (a k) v (joins_sound set k u (a k) t.0)
                  (joined_on set (a k) (b k) v (joined_edge set k r.0)
                  (joins_sound set k (b k) v t.1))
              | inr s ↦
                  let t = and_parts _ _ s in
                  joined_on set u (b k) v (joins_sound set k u (b k) t.0)
                  (joined_on set (b k) (a k) v (joined_edge_back set k r.0)
                  (joins_sound set k (a k) v t.1))
            ]
      ]

  pub joins_complete : (set : ℕ → Bool) (n u v : ℕ)
      → IsJoined a b (below set n) u v
      → joins a b set n u v ≡ true
  unfolding joins
  joins_complete set zero u v p =
      eq-eqb u v (joined_none (below set zero) (λ k. false_from_ne_true _ (λ h.
      let q : (set k ≡ true) × (k < 0) = below_parts set zero k h in absurd (omega arith))) u v p)
  joins_complete set (suc k) u v p =
      elim (cases_Bool (set k)) [
        | inr o ↦ or_left _ _
            (joins_complete set k u v (joined_more (below set (suc k)) (below set k) u v
            (λ z h. grind (arith, below_parts, below_from)) p))
        | inl t ↦ elim (by_one (below set k) k u v (joined_more (below set (suc k))
            (plus (below set k) k) u v (λ z h. grind (arith, below_parts, below_from, sets)) p)) [
              | inl q ↦ or_left _ _ (joins_complete set k u v q)
              | inr r ↦ or_right _ _ (and_from _ _ t (elim r [
                | inl q ↦ or_left _ _
                    (and_from _ _ (joins_complete set k u (a k) q.0)
                    (joins_complete set k (b k) v q.1))
                | inr q ↦ or_right _ _
                    (and_from _ _ (joins_complete set k u (b k) q.0)
                    (joins_complete set k (a k) v q.1))
              ]))
            ]
      ]
