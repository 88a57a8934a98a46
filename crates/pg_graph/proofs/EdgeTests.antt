-- The tests of crossing and parting edges say what walks say.
use Rattle.std.proofs.Common.{◌≡◌, ◌≢◌, ℕ, Bool, true, false, [], refl, inl, inr, sym, ◌∙◌}
use Rattle.pg_graph.proofs.Common.{cases_Bool, both_ways, and_parts, and_from, or_cases, or_left}
use Rattle.pg_graph.proofs.Common.{or_right, false_from_ne_true, true_from_ne_false, not_from_false}
use Rattle.pg_graph.proofs.Common.{not-true, minus, either, minus_parts}
use Rattle.pg_graph.specs.Graph.{IsJoinedIn, joins_in, spans_in, first_end_of, second_end_of}
use Rattle.pg_graph.specs.Joiner.{AreEdges, Crosses, crosses, Parts, parts}
use Rattle.pg_graph.specs.declared.graph.Graph.{Graph}
use Rattle.pg_graph.proofs.Crossing.{find_crossing}
use Rattle.pg_graph.proofs.GraphLemmas.{joins_in-sound, joins_in-complete, spans_in-sound}
use Rattle.pg_graph.proofs.WalkLemmas.{joined_on, joined_back, joined_edge}

apart_by_test : (g : Graph) (set : ℕ → Bool) (u v : ℕ)
    → AreEdges g set
    → joins_in g set u v ≡ false
    → IsJoinedIn g set u v
    → ⊥
apart_by_test g set u v small out p = both_ways _ out (joins_in-complete g set u v small p)

test_by_apart : (g : Graph) (set : ℕ → Bool) (u v : ℕ)
    → (IsJoinedIn g set u v → ⊥)
    → joins_in g set u v ≡ false
test_by_apart g set u v h = false_from_ne_true _ (λ t. h (joins_in-sound g set u v t))

pub crosses-sound : (g : Graph) (set : ℕ → Bool) (u k : ℕ)
    → AreEdges g set
    → crosses g set u k ≡ true
    → Crosses g set u k
unfolding crosses
crosses-sound g set u k small h =
    let a = first_end_of g k in
    let b = second_end_of g k in
    elim (or_cases _ _ h) [
      | inl p ↦
          let q = and_parts _ _ p in
          inl (joins_in-sound g set u a q.0, apart_by_test g set u b small (not-true _ q.1))
      | inr p ↦
          let q = and_parts _ _ p in
          inr (apart_by_test g set u a small (not-true _ q.0), joins_in-sound g set u b q.1)
    ]

pub crosses-complete : (g : Graph) (set : ℕ → Bool) (u k : ℕ)
    → AreEdges g set
    → Crosses g set u k
    → crosses g set u k ≡ true
unfolding crosses
crosses-complete g set u k small h =
    let a = first_end_of g k in
    let b = second_end_of g k in
    elim h [
      | inl p ↦ or_left _ _
          (and_from _ _ (joins_in-complete g set u a small p.0)
          (not_from_false _ (test_by_apart g set u b p.1)))
      | inr p ↦ or_right _ _
          (and_from _ _ (not_from_false _ (test_by_apart g set u a p.0))
          (joins_in-complete g set u b small p.1))
    ]

pub parts-sound : (g : Graph) (set : ℕ → Bool) (u v k : ℕ)
    → AreEdges g set
    → parts g set u v k ≡ true
    → Parts g set u v k
unfolding parts
parts-sound g set u v k small h =
    let p = and_parts _ _ h in
    let q = and_parts _ _ p.1 in
    record {
      member = p.0;
      joined = joins_in-sound g set u v q.0;
      parted = apart_by_test g (minus set k) u v (λ z i. small z (minus_parts set k z i).0)
          (not-true _ q.1);
    }

pub parts-complete : (g : Graph) (set : ℕ → Bool) (u v k : ℕ)
    → AreEdges g set
    → Parts g set u v k
    → parts g set u v k ≡ true
unfolding parts
parts-complete g set u v k small h = and_from _ _ h.member
    (and_from _ _ (joins_in-complete g set u v small h.joined)
    (not_from_false _ (test_by_apart g (minus set k) u v h.parted)))

-- a crossing edge isn't spanned
pub crosses-unspanned : (g : Graph) (set : ℕ → Bool) (u k : ℕ)
    → Crosses g set u k
    → spans_in g set k ≡ false
crosses-unspanned g set u k h =
    let a = first_end_of g in
    let b = second_end_of g in
    false_from_ne_true _ (λ t.
    let j : IsJoinedIn g set (a k) (b k) = spans_in-sound g set k t in
    elim h [
      | inl p ↦ p.1 (joined_on a b set u (a k) (b k) p.0 j)
      | inr p ↦ p.0 (joined_on a b set u (b k) (a k) p.1 (joined_back a b set (a k) (b k) j))
    ])

-- edges of the set have both ends joined to u, or neither
inside_same : (g : Graph) (set : ℕ → Bool) (u : ℕ)
    → AreEdges g set
    → (k : ℕ) → set k ≡ true
    → joins_in g set u (first_end_of g k) ≡ joins_in g set u (second_end_of g k)
inside_same g set u small k h =
    let a = first_end_of g in
    let b = second_end_of g in
    let along : IsJoinedIn g set (a k) (b k) = joined_edge a b set k h in
    elim (cases_Bool (joins_in g set u (a k))) [
      | inl t ↦ t
          ∙ sym (joins_in-complete g set u (b k) small
          (joined_on a b set u (a k) (b k) (joins_in-sound g set u (a k) t) along))
      | inr o ↦ o
          ∙ sym (test_by_apart g set u (b k) (λ p. apart_by_test g set u (a k) small o
          (joined_on a b set u (b k) (a k) p (joined_back a b set (a k) (b k) along))))
    ]

-- an edge with just one end joined to u crosses
differ : (g : Graph) (set : ℕ → Bool) (u k : ℕ)
    → joins_in g set u (first_end_of g k) ≢ joins_in g set u (second_end_of g k)
    → crosses g set u k ≡ true
unfolding crosses
differ g set u k ne =
    elim (cases_Bool (joins_in g set u (first_end_of g k))) [
      | inl t ↦ or_left _ _
          (and_from _ _ t (not_from_false _ (false_from_ne_true _ (λ s. ne (t ∙ sym s)))))
      | inr o ↦ or_right _ _
          (and_from _ _ (not_from_false _ o) (true_from_ne_false _ (λ s. ne (o ∙ sym s))))
    ]

-- where no edge of the other set crosses, it joins nothing more to u
pub uncrossed_joins : (g : Graph) (set other : ℕ → Bool) (u v : ℕ)
    → AreEdges g set
    → ((k : ℕ) → other k ≡ true → Crosses g set u k → ⊥)
    → IsJoinedIn g (either set other) u v
    → IsJoinedIn g set u v
uncrossed_joins g set other u v small none j =
    let a = first_end_of g in
    let b = second_end_of g in
    elim (cases_Bool (joins_in g set u v)) [
      | inl t ↦ joins_in-sound g set u v t
      | inr o ↦
          let k = find_crossing a b set other (joins_in g set u) u v (inside_same g set u small) j
          (joins_in-complete g set u u small (record { edges = []; walk = refl })) o in
          absurd (none k.0 k.1 (crosses-sound g set u k.0 small (differ g set u k.0 k.2)))
    ]
