-- What the edges of a graph join, with the edge e between its terminals.
use Rattle.std.proofs.Common.{◌≡◌, ℕ, ◌<◌, ◌≤◌, Bool, true, false, not, ◌⊎◌, ◌||◌, List, [], ◌∷◌}
use Rattle.std.proofs.Common.{◌++◌, length, get_or, refl, arith, inl, inr, sym, ap, ◌∙◌, subst}
use Rattle.std.proofs.Common.{zero, suc}
use Rattle.pg_graph.proofs.Common.{cases_lt, cases_Bool, both_ways, and_parts, and_from, or_cases}
use Rattle.pg_graph.proofs.Common.{or_left, or_right, false_from_ne_true, not-true}
use Rattle.pg_graph.proofs.Common.{below, IsBelow, below_parts, below_from}
use Rattle.std.proofs.lemmas.List.Elements.{All-get_or}
use Rattle.pg_graph.specs.Walks.{joins, edge_spans, first_end, second_end}
use Rattle.pg_graph.specs.Span.{IsSpan}
use Rattle.pg_graph.specs.Graph.{IsGraph, edge_count, with_e, first_end_of, second_end_of}
use Rattle.pg_graph.specs.Graph.{IsJoinedIn, JoinsEndsOf, joins_in, spans_in}
use Rattle.pg_graph.specs.Joiner.{AreEdges}
use Rattle.pg_graph.specs.declared.graph.Graph.{Graph}
use Rattle.pg_graph.proofs.WalkLemmas.{joined_more, joins_sound, joins_complete}
use Rattle.pg_graph.proofs.Spans.{IsSpan-edges, edge_spans_complete}

-- ---- the test

module _ (a b : ℕ → ℕ) where
  -- only the edges below n count
  pub joins_same : (x y : ℕ → Bool) (n u v : ℕ)
      → ((k : ℕ) → k < n → x k ≡ y k)
      → joins a b x n u v ≡ joins a b y n u v
  unfolding joins
  joins_same x y zero u v same = refl
  joins_same x y (suc n) u v same =
      let less = λ (k : ℕ) (l : k < n). same k (omega arith) in
      rw (
        same n (omega arith),
        joins_same x y n u v less,
        joins_same x y n u (a n) less,
        joins_same x y n u (b n) less,
        joins_same x y n (a n) v less,
        joins_same x y n (b n) v less,
      )

  pub joins-below : (set : ℕ → Bool) (n u v : ℕ)
      → joins a b (below set n) n u v ≡ joins a b set n u v
  unfolding below
  joins-below set n u v = joins_same (below set n) set n u v (λ k l. same_below set n k l)
    where
      same_below : (set : ℕ → Bool) (n k : ℕ) → k < n → below set n k ≡ set k
      same_below set n k l = elim (cases_Bool (set k)) [
        | inl t ↦ below_from set n k t l ∙ sym t
        | inr f ↦ false_from_ne_true _ (λ t. both_ways _ f (below_parts set n k t).0) ∙ sym f
      ]

  -- an edge outside the set doesn't count
  pub joins-suc : (set : ℕ → Bool) (n u v : ℕ)
      → set n ≡ false
      → joins a b set (suc n) u v ≡ joins a b set n u v
  unfolding joins
  joins-suc set n u v f = rw f (or_false (joins a b set n u v))
    where
      or_false : (p : Bool) → (p || false) ≡ p
      or_false true = refl
      or_false false = refl

  -- more edges join no less
  pub joins_more : (x y : ℕ → Bool) (n u v : ℕ)
      → ((k : ℕ) → k < n → x k ≡ true → y k ≡ true)
      → joins a b x n u v ≡ true
      → joins a b y n u v ≡ true
  unfolding joins
  joins_more x y zero u v more h = h
  joins_more x y (suc n) u v more h =
      let less = λ (w z : ℕ) (j : joins a b x n w z ≡ true). joins_more x y n w z
      (λ k l. more k (omega arith)) j in
      elim (or_cases _ _ h) [
        | inl p ↦ or_left _ _ (less u v p)
        | inr q ↦
            let r = and_parts _ _ q in
            or_right _ _ (and_from _ _ (more n (omega arith) r.0) (elim (or_cases _ _ r.1) [
              | inl s ↦
                  let t = and_parts _ _ s in
                  or_left _ _ (and_from _ _ (less u (a n) t.0) (less (b n) v t.1))
              | inr s ↦
                  let t = and_parts _ _ s in
                  or_right _ _ (and_from _ _ (less u (b n) t.0) (less (a n) v t.1))
            ]))
      ]

  -- where each edge is in x or in y, x joins s and t or the edges that aren't in y don't
  pub switching_full : (x y : ℕ → Bool) (m s t : ℕ)
      → ((k : ℕ) → k < m → (x k ≡ true) ⊎ (y k ≡ true))
      → (joins a b x m s t ≡ true) ⊎ (joins a b (λ e. not (y e)) m s t ≡ false)
  switching_full x y m s t full =
      elim (cases_Bool (joins a b (λ e. not (y e)) m s t)) [
        | inl on ↦ inl (joins_more (λ e. not (y e)) x m s t (λ k l out. elim (full k l) [
          | inl h ↦ h
          | inr h ↦ absurd (both_ways _ (not-true (y k) out) h)
        ]) on)
        | inr off ↦ inr off
      ]

-- ---- the ends

get_or_append_low : (xs : List (ℕ × ℕ)) (e : ℕ × ℕ) (k : ℕ)
    → k < length xs
    → get_or (xs ++ (e ∷ [])) k (0, 0) ≡ get_or xs k (0, 0)
get_or_append_low [] e k l = absurd (omega arith)
get_or_append_low (x ∷ xs) e zero l = refl
get_or_append_low (x ∷ xs) e (suc k) l = get_or_append_low xs e k (omega arith)

get_or_append_last : (xs : List (ℕ × ℕ)) (e : ℕ × ℕ)
    → get_or (xs ++ (e ∷ [])) (length xs) (0, 0) ≡ e
get_or_append_last [] e = refl
get_or_append_last (x ∷ xs) e = get_or_append_last xs e

get_or_append_past : (xs : List (ℕ × ℕ)) (e : ℕ × ℕ) (k : ℕ)
    → length xs < k
    → get_or (xs ++ (e ∷ [])) k (0, 0) ≡ (0, 0)
get_or_append_past [] e zero l = absurd (omega arith)
get_or_append_past [] e (suc k) l = refl
get_or_append_past (x ∷ xs) e zero l = absurd (omega arith)
get_or_append_past (x ∷ xs) e (suc k) l = get_or_append_past xs e k (omega arith)

-- the ends of an edge below the number of edges are those of the list
pub first_end_of-edge : (g : Graph) (k : ℕ)
    → k < edge_count g
    → first_end_of g k ≡ first_end g.ends k
unfolding first_end_of first_end with_e
first_end_of-edge g k l = ap (λ p. p.0) (get_or_append_low g.ends (g.s, g.t) k l)

pub second_end_of-edge : (g : Graph) (k : ℕ)
    → k < edge_count g
    → second_end_of g k ≡ second_end g.ends k
unfolding second_end_of second_end with_e
second_end_of-edge g k l = ap (λ p. p.1) (get_or_append_low g.ends (g.s, g.t) k l)

-- e joins the terminals
pub first_end_of-e : (g : Graph) → first_end_of g (edge_count g) ≡ g.s
unfolding first_end_of first_end with_e
first_end_of-e g = ap (λ p. p.0) (get_or_append_last g.ends (g.s, g.t))

pub second_end_of-e : (g : Graph) → second_end_of g (edge_count g) ≡ g.t
unfolding second_end_of second_end with_e
second_end_of-e g = ap (λ p. p.1) (get_or_append_last g.ends (g.s, g.t))

-- numbers after e stand for loops
pub loops_after : (g : Graph) (k : ℕ)
    → suc (edge_count g) ≤ k
    → first_end_of g k ≡ second_end_of g k
unfolding first_end_of second_end_of first_end second_end with_e
loops_after g k l =
    let past = get_or_append_past g.ends (g.s, g.t) k (omega arith) in
    ap (λ p. p.0) past ∙ sym (ap (λ p. p.1) past)

-- ---- what a graph's edges join

-- the test says what walks say
pub joins_in-sound : (g : Graph) (set : ℕ → Bool) (u v : ℕ)
    → joins_in g set u v ≡ true
    → IsJoinedIn g set u v
joins_in-sound g set u v h =
    joins_sound (first_end_of g) (second_end_of g) set (suc (edge_count g)) u v h

pub joins_in-complete : (g : Graph) (set : ℕ → Bool) (u v : ℕ)
    → IsBelow set (suc (edge_count g))
    → IsJoinedIn g set u v
    → joins_in g set u v ≡ true
joins_in-complete g set u v small p =
    joins_complete (first_end_of g) (second_end_of g) set (suc (edge_count g)) u v
    (joined_more (first_end_of g) (second_end_of g) set (below set (suc (edge_count g))) u v
    (λ z h. below_from set (suc (edge_count g)) z h (small z h)) p)

-- without e the edges of the list are enough
pub joins_in-edges : (g : Graph) (set : ℕ → Bool) (u v : ℕ)
    → set (edge_count g) ≡ false
    → joins_in g set u v ≡ joins (first_end_of g) (second_end_of g) set (edge_count g) u v
joins_in-edges g set u v out =
    joins-suc (first_end_of g) (second_end_of g) set (edge_count g) u v out

-- the edges of a graph, e among them, keep the three laws
pub IsSpan-graph : (g : Graph) → IsSpan (spans_in g)
IsSpan-graph g =
    IsSpan-edges (first_end_of g) (second_end_of g) (suc (edge_count g)) (loops_after g)

pub spans_in-joins : (g : Graph) (set : ℕ → Bool) (f : ℕ)
    → spans_in g set f ≡ joins_in g set (first_end_of g f) (second_end_of g f)
unfolding edge_spans
spans_in-joins g set f = refl

-- ---- the ends as the code reads them

pub ends-edge : (g : Graph) (k : ℕ)
    → k < edge_count g
    → ◌≡◌ {A = ℕ × ℕ} (get_or g.ends k (0, 0)) (first_end_of g k, second_end_of g k)
unfolding first_end second_end
ends-edge g k l = sym (rw (first_end_of-edge g k l, second_end_of-edge g k l) refl)

pub ends-e : (g : Graph) (k : ℕ)
    → k ≡ edge_count g
    → ◌≡◌ {A = ℕ × ℕ} (g.s, g.t) (first_end_of g k, second_end_of g k)
ends-e g k e = rw e (rw (first_end_of-e g, second_end_of-e g) refl)

-- ends of edges, and of e, are in range
pub ends_in_range : (g : Graph) (k : ℕ)
    → IsGraph g
    → k ≤ edge_count g
    → (first_end_of g k < g.vertices) × (second_end_of g k < g.vertices)
unfolding first_end second_end
ends_in_range g k h l = elim (cases_lt k (edge_count g)) [
  | inl lt ↦
      let both =
      All-get_or (λ e. (e.0 < g.vertices) × (e.1 < g.vertices)) g.ends k (0, 0) lt h.ends_range in
      (rw (first_end_of-edge g k lt) both.0, rw (second_end_of-edge g k lt) both.1)
  | inr ge ↦
      let last : k ≡ edge_count g = omega arith in
      rw last (rw (first_end_of-e g) h.s_range, rw (second_end_of-e g) h.t_range)
]

-- a set spans an edge just where it joins its ends
pub spans_in-sound : (g : Graph) (set : ℕ → Bool) (f : ℕ)
    → spans_in g set f ≡ true
    → JoinsEndsOf g set f
spans_in-sound g set f h =
    joins_in-sound g set (first_end_of g f) (second_end_of g f) (sym (spans_in-joins g set f) ∙ h)

pub spans_in-complete : (g : Graph) (set : ℕ → Bool) (f : ℕ)
    → AreEdges g set
    → JoinsEndsOf g set f
    → spans_in g set f ≡ true
spans_in-complete g set f small p =
    spans_in-joins g set f ∙ joins_in-complete g set (first_end_of g f) (second_end_of g f) small p

-- a set doesn't span an edge just where it doesn't join its ends
pub unspanned-from : (g : Graph) (set : ℕ → Bool) (f : ℕ)
    → (JoinsEndsOf g set f → ⊥)
    → spans_in g set f ≡ false
unspanned-from g set f apart = false_from_ne_true _ (λ t. apart (spans_in-sound g set f t))

pub unspanned-apart : (g : Graph) (set : ℕ → Bool) (f : ℕ)
    → spans_in g set f ≡ false
    → JoinsEndsOf g set f
    → ⊥
unspanned-apart g set f out p = both_ways _ out
    (edge_spans_complete (first_end_of g) (second_end_of g) (suc (edge_count g))
    (loops_after g) set f p)

-- a set spans e just where it joins the terminals
pub spans_e-sound : (g : Graph) (set : ℕ → Bool)
    → spans_in g set (edge_count g) ≡ true
    → IsJoinedIn g set g.s g.t
spans_e-sound g set h = subst (λ v. IsJoinedIn g set g.s v) (second_end_of-e g)
    (subst (λ u. IsJoinedIn g set u (second_end_of g (edge_count g))) (first_end_of-e g)
    (spans_in-sound g set (edge_count g) h))

pub spans_e-complete : (g : Graph) (set : ℕ → Bool)
    → AreEdges g set
    → IsJoinedIn g set g.s g.t
    → spans_in g set (edge_count g) ≡ true
spans_e-complete g set small p = spans_in-complete g set (edge_count g) small
    (subst (λ v. IsJoinedIn g set (first_end_of g (edge_count g)) v) (sym (second_end_of-e g))
    (subst (λ u. IsJoinedIn g set u g.t) (sym (first_end_of-e g)) p))
