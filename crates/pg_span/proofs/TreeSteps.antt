-- Two sets of edges each of which joins every two vertices with X's edges: what the answer to a
-- lost edge keeps.
use Rattle.std.proofs.Common.{◌≡◌, ℕ, ◌<◌, ◌≤◌, Bool, true, false, inl, inr, subst, arith}
use Rattle.pg_span.proofs.Common.{cases_eq, both_ways, false_from_ne_true, FinSet, contains}
use Rattle.pg_span.proofs.Common.{nat_cmp, plus, minus, either, IsWithin, AreBelow, minus_parts}
use Rattle.pg_span.proofs.Common.{plus_new, either_cases, either_left, sets, Graph, IsGraph}
use Rattle.pg_span.proofs.Common.{edge_count, spans_in, first_end_of, second_end_of, IsJoinedIn}
use Rattle.pg_span.proofs.Common.{AreEdges, Crosses, crosses-unspanned, uncrossed_joins}
use Rattle.pg_span.proofs.Common.{IsSpan-graph, spans_in-sound, spans_in-complete, ends_in_range}
use Rattle.pg_span.proofs.Common.{joined_on, joined_back, joined_by, joined_edge, joined_more}
use Rattle.pg_span.proofs.Common.{Position, IsFreeEdge, lowest_free_edge, short_edge, short_reply}
use Rattle.pg_span.proofs.Common.{lowest_free-free}
use Rattle.pg_graph.proofs.Swap.{spans_trade}
use Rattle.pg_span.proofs.Connects.{JoinsAll}
use Rattle.pg_switch.proofs.AnswerLaws.{left-edges, crossing-replies}
use Rattle.pg_switch.proofs.LostElement.{AreLeft, IsAnswer, IsReply, answer-kept}

-- with s each of two disjoint sets joins every two vertices
pub record AreJoining (h : Graph) (s a1 a2 : ℕ → Bool) : Type 0 where
  pub apart : (f : ℕ) → a1 f ≡ true → a2 f ≡ false
  pub one : JoinsAll h (either s a1)
  pub two : JoinsAll h (either s a2)

pub joining-other : (h : Graph) (s a1 a2 : ℕ → Bool) → AreJoining h s a1 a2 → AreJoining h s a2 a1
joining-other h s a1 a2 t = record {
  apart = λ f k. false_from_ne_true _ (λ i. both_ways _ (t.apart f i) k);
  one = t.two;
  two = t.one;
}

grown : (s a : ℕ → Bool) (z : ℕ) → IsWithin (either s a) (either (plus s z) (minus a z))
grown s a z w h = elim (cases_eq z w) [
  | inl q ↦ either_left (plus s z) (minus a z) w (plus_new s z w q)
  | inr d ↦ grind (arith, sets)
]

joins_grown : (h : Graph) (s a : ℕ → Bool) (z : ℕ)
    → JoinsAll h (either s a)
    → JoinsAll h (either (plus s z) (minus a z))
joins_grown h s a z all u v lu lv = joined_more (first_end_of h) (second_end_of h) (either s a)
    (either (plus s z) (minus a z)) u v (grown s a z) (all u v lu lv)

-- X claims any edge, which leaves both sets
pub joining-claimed : (h : Graph) (s a1 a2 : ℕ → Bool) (z : ℕ)
    → AreJoining h s a1 a2
    → AreJoining h (plus s z) (minus a1 z) (minus a2 z)
joining-claimed h s a1 a2 z t = record {
  apart = λ f k. false_from_ne_true _
      (λ i. both_ways _ (t.apart f (minus_parts a1 z f k).0) (minus_parts a2 z f i).0);
  one = joins_grown h s a1 z t.one;
  two = joins_grown h s a2 z t.two;
}

-- x is lost, and an edge of the other set that crosses what is left is claimed
pub joining-crossed : (h : Graph) (s a1 a2 : ℕ → Bool) (u0 x y : ℕ)
    → IsGraph h
    → AreEdges h s
    → AreEdges h a1
    → AreJoining h s a1 a2
    → a1 x ≡ true
    → a2 y ≡ true
    → y ≤ edge_count h
    → Crosses h (either s (minus a1 x)) u0 y
    → AreJoining h (plus s y) (minus a1 x) (minus a2 y)
joining-crossed h s a1 a2 u0 x y graph small small1 t ax ay low c = record {
  apart = λ f k. false_from_ne_true _
      (λ i. both_ways _ (t.apart f (minus_parts a1 x f k).0) (minus_parts a2 y f i).0);
  one = λ u v lu lv. joined_by (first_end_of h) (second_end_of h) (either s a1)
      (either (plus s y) (minus a1 x)) u v along (t.one u v lu lv);
  two = joins_grown h s a2 y t.two;
} where
  edges : AreEdges h (either s a1)
  edges z k = elim (either_cases s a1 z k) [ inl i ↦ small z i | inr i ↦ small1 z i ]

  spans_y : spans_in h (either s a1) y ≡ true
  spans_y =
      let r = ends_in_range h y graph low in
      spans_in-complete h (either s a1) y edges
      (t.one (first_end_of h y) (second_end_of h y) r.0 r.1)

  spans_x : spans_in h (either (plus s y) (minus a1 x)) x ≡ true
  spans_x = spans_trade (spans_in h) (IsSpan-graph h) (either s (minus a1 x)) (either s a1)
      (either (plus s y) (minus a1 x)) y x (λ z k. elim (cases_eq x z) [
        | inl q ↦ plus_new _ x z q
        | inr d ↦ grind (arith, sets)
      ]) (λ z k. grind (arith, sets)) (crosses-unspanned h (either s (minus a1 x)) u0 y c) spans_y

  along : (k : ℕ)
      → either s a1 k ≡ true
      → IsJoinedIn h (either (plus s y) (minus a1 x)) (first_end_of h k) (second_end_of h k)
  along k on = elim (cases_eq x k) [
    | inl q ↦ subst (λ (j : ℕ). IsJoinedIn h (either (plus s y) (minus a1 x)) (first_end_of h j)
        (second_end_of h j)) q (spans_in-sound h (either (plus s y) (minus a1 x)) x spans_x)
    | inr d ↦ joined_edge (first_end_of h) (second_end_of h) (either (plus s y) (minus a1 x)) k
        (grind (arith, sets))
  ]

-- x is lost, and no edge of the other set crosses: what is left needs no x
pub joining-uncrossed : (h : Graph) (s a1 a2 : ℕ → Bool) (x : ℕ)
    → IsGraph h
    → AreEdges h s
    → AreEdges h a1
    → x ≤ edge_count h
    → AreJoining h s a1 a2
    → ((y : ℕ) → a2 y ≡ true → Crosses h (either s (minus a1 x)) (first_end_of h x) y → ⊥)
    → AreJoining h s (minus a1 x) a2
joining-uncrossed h s a1 a2 x graph small small1 low t none = record {
  apart = λ f k. t.apart f (minus_parts a1 x f k).0;
  one = λ u v lu lv. joined_on (first_end_of h) (second_end_of h) kept u root v
      (joined_back (first_end_of h) (second_end_of h) kept root u (each u lu)) (each v lv);
  two = t.two;
} where
  kept : ℕ → Bool
  kept = either s (minus a1 x)

  root : ℕ
  root = first_end_of h x

  edges : AreEdges h (either s (minus a1 x))
  edges z k = elim (either_cases s (minus a1 x) z k) [
    | inl i ↦ small z i
    | inr i ↦ small1 z (minus_parts a1 x z i).0
  ]

  each : (v : ℕ) → v < h.vertices → IsJoinedIn h (either s (minus a1 x)) (first_end_of h x) v
  each v lv = uncrossed_joins h (either s (minus a1 x)) a2 (first_end_of h x) v edges none
      (joined_more (first_end_of h) (second_end_of h) (either s a2)
      (either (either s (minus a1 x)) a2) (first_end_of h x) v (λ z k. grind (arith, sets))
      (t.two (first_end_of h x) v (ends_in_range h x graph low).0 lv))

-- ---- the answer

-- sets that stand but for x
pub record TreesDue (h : Graph) (p : Position) (a1 a2 : FinSet nat_cmp) (x : ℕ) : Type 0 where
  pub joining : AreJoining h (contains p.x) (contains a1) (contains a2)
  pub left : AreLeft (edge_count h) p a1 a2 x

-- the answer keeps the sets
pub trees-kept : (h : Graph) (p : Position) (a1 a2 : FinSet nat_cmp) (x z : ℕ)
    → IsGraph h
    → AreBelow p.x (edge_count h)
    → TreesDue h p a1 a2 x
    → IsFreeEdge h p z
    → IsAnswer (edge_count h) plus (AreJoining h) p (contains p.x) x a1 a2
    (short_edge h p a1 a2 x)
trees-kept h p a1 a2 x z graph small d fz = answer-kept (edge_count h) plus (AreJoining h) p
    (contains p.x) x (record {
      apart = λ s b1 b2 t. t.apart;
      other = λ s b1 b2 t. joining-other h s b1 b2 t;
      claimed = λ s b1 b2 v low t. joining-claimed h s b1 b2 v t;
    }) (λ one another. short_reply h p one another x) (lowest_free_edge h p) a1 a2 replies
    (lowest_free-free h p z fz) d.joining d.left
  where
    edges : AreEdges h (contains p.x)
    edges v k = let low = small v k in omega arith

    replies : (one another : FinSet nat_cmp)
        → AreJoining h (contains p.x) (contains one) (contains another)
        → AreLeft (edge_count h) p one another x
        → contains one x ≡ true
        → IsReply (edge_count h) plus (AreJoining h) p (contains p.x) x one another
        (short_reply h p one another x)
    replies one another t left on = crossing-replies h (AreJoining h) p x z one another small fz
        left (t.apart x on) (λ y low k c. joining-crossed h (contains p.x) (contains one)
        (contains another) (first_end_of h x) x y graph edges (left-edges h p one another x left) t
        on k (omega arith) c) (λ none. joining-uncrossed h (contains p.x) (contains one)
        (contains another) x graph edges (left-edges h p one another x left) left.bound t none)
