-- Edges span the edges whose ends they join: the three laws.
use Rattle.std.proofs.Common.{◌≡◌, ℕ, ◌≤◌, Bool, true, false, refl, inl, inr, subst}
use Rattle.pg_graph.proofs.Common.{cases_lt, both_ways, plus, below, plus_old, plus_new, below_from}
use Rattle.pg_graph.specs.Span.{IsSpan}
use Rattle.pg_graph.specs.Walks.{IsJoined, edge_spans}
use Rattle.pg_graph.proofs.WalkLemmas.{joined_self, joined_on, joined_edge, joined_back, joined_by}
use Rattle.pg_graph.proofs.WalkLemmas.{joined_more, ByOne, by_one, joins_sound, joins_complete}

-- numbers from n on stand for loops
module _ (a b : ℕ → ℕ) (n : ℕ) (loops : (k : ℕ) → n ≤ k → a k ≡ b k) where
  pub edge_spans_sound : (set : ℕ → Bool) (f : ℕ)
      → edge_spans a b n set f ≡ true
      → IsJoined a b set (a f) (b f)
  unfolding edge_spans
  edge_spans_sound set f h = joins_sound a b set n (a f) (b f) h

  pub edge_spans_complete : (set : ℕ → Bool) (f : ℕ)
      → IsJoined a b set (a f) (b f)
      → edge_spans a b n set f ≡ true
  unfolding edge_spans
  edge_spans_complete set f p = joins_complete a b set n (a f) (b f)
      (joined_by a b set (below set n) (a f) (b f)
      (λ k h. elim (cases_lt k n) [
        | inl l ↦ joined_edge a b (below set n) k (below_from set n k h l)
        | inr l ↦ subst (λ z. IsJoined a b (below set n) (a k) z) (loops k l)
            (joined_self a b (below set n) (a k))
      ])
      p)

  -- the three laws
  pub IsSpan-edges : IsSpan (edge_spans a b n)
  IsSpan-edges = record {
    holds = λ set f h. edge_spans_complete set f (joined_edge a b set f h);
    closed = λ set by f each s. edge_spans_complete set f
        (joined_by a b by set (a f) (b f) (λ k h. edge_spans_sound set k (each k h))
        (edge_spans_sound by f s));
    trades = λ set f g out s. edge_spans_complete (plus set f) g
        (traded set f g out (by_one a b set g (a f) (b f) (edge_spans_sound (plus set g) f s)));
  } where
    grow : (set : ℕ → Bool) (f u v : ℕ) → IsJoined a b set u v → IsJoined a b (plus set f) u v
    grow set f u v = joined_more a b set (plus set f) u v (λ z h. plus_old set f z h)

    own : (set : ℕ → Bool) (f : ℕ) → IsJoined a b (plus set f) (a f) (b f)
    own set f = joined_edge a b (plus set f) f (plus_new set f f refl)

    traded : (set : ℕ → Bool) (f g : ℕ)
        → edge_spans a b n set f ≡ false
        → ByOne a b set g (a f) (b f)
        → IsJoined a b (plus set f) (a g) (b g)
    traded set f g out h =
        elim h [
          | inl p ↦ absurd (both_ways _ out (edge_spans_complete set f p))
          | inr q ↦ elim q [
            | inl p ↦ joined_on a b (plus set f) (a g) (a f) (b g)
                (joined_back a b (plus set f) (a f) (a g) (grow set f (a f) (a g) p.0))
                (joined_on a b (plus set f) (a f) (b f) (b g) (own set f)
                (joined_back a b (plus set f) (b g) (b f) (grow set f (b g) (b f) p.1)))
            | inr p ↦ joined_on a b (plus set f) (a g) (b f) (b g) (grow set f (a g) (b f) p.1)
                (joined_on a b (plus set f) (b f) (a f) (b g)
                (joined_back a b (plus set f) (a f) (b f) (own set f)) (grow set f (a f) (b g) p.0))
          ]
        ]
