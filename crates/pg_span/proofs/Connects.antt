-- Edges that join every two vertices, and a judge's tests of them.
use Rattle.std.proofs.Common.{◌≡◌, ℕ, ◌<◌, ◌≤◌, zero, suc, Bool, true, false, ◌&&◌, ◌||◌, ◌⊎◌, not}
use Rattle.std.proofs.Common.{Option, Some, None, [], refl, inl, inr, sym, ap, ◌∙◌, subst, arith}
use Rattle.std.specs.Prelude.{IfSome, IfNone, is_some, nat_lt}
use Rattle.pg_span.proofs.Common.{cases_Bool, both_ways, and_from, false_from_ne_true, lt-ltb}
use Rattle.pg_span.proofs.Common.{ltb-true, FinSet, contains, nat_cmp, below, either, IsBelow}
use Rattle.pg_span.proofs.Common.{below_from, either_right, Graph, IsGraph, edge_count}
use Rattle.pg_span.proofs.Common.{first_end_of, second_end_of, IsJoinedIn, Crosses, IsLowest}
use Rattle.pg_span.proofs.Common.{uncrossed_joins, ends_in_range, joins_same, joined_on}
use Rattle.pg_span.proofs.Common.{joined_back, joined_more, joins_sound, joins_complete}
use Rattle.pg_span.proofs.Common.{joins_below, joins_pairs, joined_pairs, YWins, Position}
use Rattle.pg_span.proofs.Common.{ending_by, kept}
use Rattle.pg_graph.specs.Walks.{joins}
use Rattle.pg_span.specs.declared.game.SpanGame.{SpanGame}
use Rattle.pg_span.specs.Judge.{connects}
use Rattle.pg_span.specs.Game.{span_rules_of}

-- walks of the set's edges lead from each vertex to each
abbrev pub JoinsAll : Graph → (ℕ → Bool) → Type 0
JoinsAll h set = (u v : ℕ) → u < h.vertices → v < h.vertices → IsJoinedIn h set u v

pub connects-sound : (h : Graph) (set : ℕ → Bool) → connects h set ≡ true → JoinsAll h set
connects-sound h set on u v lu lv =
    joins_sound (first_end_of h) (second_end_of h) set (edge_count h) u v
    (joined_pairs (first_end_of h) (second_end_of h) set (λ z. z) h.vertices 0
    (edge_count h) h.vertices u v on lu lv)

module _ (h : Graph) (set : ℕ → Bool) (small : IsBelow set (edge_count h))
    (all : JoinsAll h set) where
  pair : (u v : ℕ)
      → u < h.vertices
      → v < h.vertices
      → joins (first_end_of h) (second_end_of h) set (edge_count h) u v ≡ true
  pair u v lu lv = joins_complete (first_end_of h) (second_end_of h) set (edge_count h) u v
      (joined_more (first_end_of h) (second_end_of h) set (below set (edge_count h)) u v
      (λ z k. below_from set (edge_count h) z k (small z k)) (all u v lu lv))

  below_joined : (u k : ℕ)
      → u < h.vertices
      → k ≤ h.vertices
      → joins_below (first_end_of h) (second_end_of h) (edge_count h) set u k ≡ true
  unfolding joins_below
  below_joined u zero lu l = refl
  below_joined u (suc k) lu l =
      and_from _ _ (pair u k lu (omega arith)) (below_joined u k lu (omega arith))

  pairs_joined : (k : ℕ)
      → k ≤ h.vertices
      → joins_pairs (first_end_of h) (second_end_of h) (edge_count h) h.vertices set k ≡ true
  unfolding joins_pairs
  pairs_joined zero l = refl
  pairs_joined (suc k) l = and_from _ _ (below_joined k h.vertices (omega arith) (omega arith))
      (pairs_joined k (omega arith))

  pub connects-complete : connects h set ≡ true
  connects-complete = pairs_joined h.vertices (omega arith)

-- vertex 0 is joined to each
pub from_zero : (h : Graph) (set : ℕ → Bool)
    → ((v : ℕ) → v < h.vertices → IsJoinedIn h set 0 v)
    → JoinsAll h set
from_zero h set each u v lu lv = joined_on (first_end_of h) (second_end_of h) set u 0 v
    (joined_back (first_end_of h) (second_end_of h) set 0 u (each u lu)) (each v lv)

-- whether sets connect depends on the edges alone
pub connects-same : (h : Graph) (x y : ℕ → Bool)
    → ((z : ℕ) → z < edge_count h → x z ≡ y z)
    → connects h x ≡ connects h y
unfolding joins_below joins_pairs
connects-same h x y same = by_pairs h.vertices
  where
    by_below : (u k : ℕ)
        → joins_below (first_end_of h) (second_end_of h) (edge_count h) x u k
        ≡ joins_below (first_end_of h) (second_end_of h) (edge_count h) y u k
    by_below u zero = refl
    by_below u (suc k) = Rattle.std.proofs.Common.ap₂ Rattle.std.proofs.Common.◌&&◌
        (joins_same (first_end_of h) (second_end_of h) x y (edge_count h) u k same) (by_below u k)

    by_pairs : (k : ℕ)
        → joins_pairs (first_end_of h) (second_end_of h) (edge_count h) h.vertices x k
        ≡ joins_pairs (first_end_of h) (second_end_of h) (edge_count h) h.vertices y k
    by_pairs zero = refl
    by_pairs (suc k) = Rattle.std.proofs.Common.ap₂ Rattle.std.proofs.Common.◌&&◌
        (by_below k h.vertices) (by_pairs k)

-- ---- the tests

-- one vertex that isn't joined to vertex 0
pub connects-apart : (h : Graph) (set : ℕ → Bool) (v : ℕ)
    → 0 < h.vertices
    → v < h.vertices
    → (IsJoinedIn h set 0 v → ⊥)
    → connects h set ≡ false
connects-apart h set v some low apart =
    false_from_ne_true _ (λ on. apart (connects-sound h set on 0 v some low))

-- what joins all at vertex 0 connects
pub connects-each : (h : Graph) (set : ℕ → Bool)
    → IsBelow set (edge_count h)
    → ((v : ℕ) → v < h.vertices → IsJoinedIn h set 0 v)
    → connects h set ≡ true
connects-each h set small each = connects-complete h set small (from_zero h set each)

-- edges that don't connect all together don't connect
pub connects-more : (h : Graph) (set : ℕ → Bool)
    → IsBelow set (edge_count h)
    → connects h set ≡ true
    → connects h (λ _. true) ≡ true
connects-more h set small on = connects-same h (λ _. true) (below (λ _. true) (edge_count h))
    (λ z l. sym (below_from (λ _. true) (edge_count h) z refl l))
    ∙ connects-complete h (below (λ _. true) (edge_count h))
    (λ z k. (Rattle.pg_base.proofs.BelowLemmas.below_parts (λ _. true) (edge_count h) z k).1)
    (λ u v lu lv. joined_more (first_end_of h) (second_end_of h) set
    (below (λ _. true) (edge_count h)) u v (λ z k.
    below_from (λ _. true) (edge_count h) z refl (small z k)) (connects-sound h set on u v lu lv))

-- where all edges connect, and none of them leads out of what the set joins to vertex 0, the set
-- connects
pub connects-uncrossed : (h : Graph) (set all : ℕ → Bool)
    → IsGraph h
    → 0 < h.vertices
    → IsBelow set (edge_count h)
    → ((v : ℕ) → all v ≡ nat_lt v (edge_count h))
    → connects h (λ _. true) ≡ true
    → ((k : ℕ) → all k ≡ true → Crosses h set 0 k → ⊥)
    → connects h set ≡ true
connects-uncrossed h set all graph some small is_all whole none = connects-each h set small
    (λ v low. uncrossed_joins h set all 0 v (λ z k. let l = small z k in omega arith) none
    (joined_more (first_end_of h) (second_end_of h) (below (λ _. true) (edge_count h))
    (either set all) 0 v (λ z k. either_right set all z (is_all z
    ∙ lt-ltb z (edge_count h)
    (Rattle.pg_base.proofs.BelowLemmas.below_parts (λ _. true) (edge_count h) z k).1))
    (connects-sound h (below (λ _. true) (edge_count h)) (connects-same h (below (λ _.
    true) (edge_count h)) (λ _. true) (λ z l. below_from (λ _. true) (edge_count h) z refl l)
    ∙ whole) 0 v some low)))

-- an edge that leads out shows that the set doesn't connect
pub connects-crossed : (h : Graph) (set : ℕ → Bool) (k : ℕ)
    → IsGraph h
    → 0 < h.vertices
    → k < edge_count h
    → Crosses h set 0 k
    → connects h set ≡ false
connects-crossed h set k graph some low crossed = false_from_ne_true _ (λ on.
    let range = ends_in_range h k graph (omega arith) in
    elim crossed [
      | inl c ↦ c.1 (connects-sound h set on 0 (second_end_of h k) some range.1)
      | inr c ↦ c.0 (connects-sound h set on 0 (first_end_of h k) some range.0)
    ])

-- so the joiner's answer decides
pub connects-found : (h : Graph) (set all : ℕ → Bool) (r : Option ℕ)
    → IsGraph h
    → 0 < h.vertices
    → IsBelow set (edge_count h)
    → ((v : ℕ) → all v ≡ nat_lt v (edge_count h))
    → connects h (λ _. true) ≡ true
    → IfSome r (λ k. IsLowest all (Crosses h set 0) k)
    → IfNone r ((k : ℕ) → all k ≡ true → Crosses h set 0 k → ⊥)
    → (none : Bool) → is_some r ≡ not none
    → none ≡ connects h set
connects-found h set all r graph some small is_all whole lowest none b is =
    negated b (is_some r) is ∙ by r lowest none
  where
    negated : (b c : Bool) → c ≡ not b → b ≡ not c
    negated true c e = ap not (sym e)
    negated false c e = ap not (sym e)

    by : (r : Option ℕ)
        → IfSome r (λ k. IsLowest all (Crosses h set 0) k)
        → IfNone r ((k : ℕ) → all k ≡ true → Crosses h set 0 k → ⊥)
        → not (is_some r) ≡ connects h set
    by (Some k) lowest none = sym (connects-crossed h set k graph some
        (ltb-true k (edge_count h) (sym (is_all k) ∙ lowest.candidate)) lowest.fact)
    by None lowest none = sym (connects-uncrossed h set all graph some small is_all whole none)

-- ---- the outcome

-- the edges that aren't Y's
pub kept-connects : (g : SpanGame) (p : Position) (all left : FinSet nat_cmp) (m : ℕ)
    → m ≡ edge_count g.graph
    → ((v : ℕ) → contains all v ≡ nat_lt v m)
    → ((v : ℕ) → contains left v ≡ (contains all v && not (contains p.y v)))
    → connects g.graph (contains left) ≡ connects g.graph (kept (edge_count g.graph) p)
kept-connects g p all left m is_m is_all is_left =
    connects-same g.graph (contains left) (kept (edge_count g.graph) p) (λ z l.
    let here : contains all z ≡ true = is_all z ∙ lt-ltb z m (omega (arith, l, is_m)) in
    is_left z
    ∙ (ap (λ (b : Bool). b && not (contains p.y z)) here
    ∙ below-at (λ f. not (contains p.y f)) (edge_count g.graph) z l))
  where
    below-at : (a : ℕ → Bool) (n z : ℕ) → z < n → a z ≡ below a n z
    below-at a n z l = elim (cases_Bool (a z)) [
      | inl on ↦ on ∙ sym (below_from a n z on l)
      | inr off ↦ off
          ∙ sym (false_from_ne_true _
          (λ k. both_ways _ off (Rattle.pg_base.proofs.BelowLemmas.below_parts a n z k).0))
    ]

pub ending-goes_on : (g : SpanGame) (p : Position)
    → connects g.graph (contains p.x) ≡ false
    → connects g.graph (kept (edge_count g.graph) p) ≡ true
    → None ≡ ending_by (span_rules_of g) p
ending-goes_on g p off on = rw (off, on) refl

pub ending-y : (g : SpanGame) (p : Position)
    → connects g.graph (contains p.x) ≡ false
    → connects g.graph (kept (edge_count g.graph) p) ≡ false
    → Some YWins ≡ ending_by (span_rules_of g) p
ending-y g p off apart = rw (off, apart) refl
