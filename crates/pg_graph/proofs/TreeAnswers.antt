-- Trees in play: an answer to the loss of an edge keeps two sets that span each other.
use Rattle.std.proofs.Common.{◌≡◌, ℕ, Bool, true, not, ◌&&◌, inl, inr, arith}
use Rattle.pg_graph.proofs.Common.{both_ways, cases_Bool, false_from_ne_true, true_from_ne_false}
use Rattle.pg_graph.proofs.Common.{and_parts, and_from, not-true, not_from_false, plus, minus}
use Rattle.pg_graph.proofs.Common.{either, IsWithin, IsBelow, minus_parts, either_cases, find_below}
use Rattle.pg_graph.proofs.Common.{sets}
use Rattle.pg_graph.specs.Graph.{edge_count, spans_in, first_end_of, second_end_of}
use Rattle.pg_graph.specs.Joiner.{AreEdges, Crosses}
use Rattle.pg_graph.specs.Span.{IsSpan, IsTrees}
use Rattle.pg_graph.specs.declared.graph.Graph.{Graph}
use Rattle.pg_graph.proofs.EdgeTests.{crosses-unspanned, uncrossed_joins}
use Rattle.pg_graph.proofs.FreeLemmas.{still_free, still_free_without, free_again}
use Rattle.pg_graph.proofs.GraphLemmas.{IsSpan-graph, spans_in-sound, spans_in-complete}
use Rattle.pg_graph.proofs.Swap.{spans_mono}
use Rattle.pg_graph.proofs.Trees.{IsTrees-other, IsTrees-dropped, IsTrees-claimed, IsTrees-answered}
use Rattle.pg_graph.proofs.Trees.{spans_none}

-- ---- the sets of a graph

-- x is lost, and an edge of the other set that crosses what is left is claimed
pub IsTrees-crossed : (g : Graph) (s a1 a2 : ℕ → Bool) (u x y : ℕ)
    → IsTrees (spans_in g) (edge_count g) s a1 a2
    → a1 x ≡ true
    → a2 y ≡ true
    → Crosses g (either s (minus a1 x)) u y
    → IsTrees (spans_in g) (edge_count g) (plus s y) (minus a1 x) (minus a2 y)
IsTrees-crossed g s a1 a2 u x y t ax ay c = IsTrees-answered (spans_in g) (IsSpan-graph g)
    (edge_count g) s a1 a2 x y t ax ay (crosses-unspanned g (either s (minus a1 x)) u y c)

-- x is lost, and no edge of the other set crosses: what is left needs no x
pub IsTrees-uncrossed : (g : Graph) (s a1 a2 : ℕ → Bool) (x : ℕ)
    → IsTrees (spans_in g) (edge_count g) s a1 a2
    → a1 x ≡ true
    → AreEdges g s
    → AreEdges g a1
    → ((y : ℕ) → a2 y ≡ true → Crosses g (either s (minus a1 x)) (first_end_of g x) y → ⊥)
    → IsTrees (spans_in g) (edge_count g) s (minus a1 x) a2
IsTrees-uncrossed g s a1 a2 x t ax small small1 none =
    let kept = either s (minus a1 x) in
    let edges : AreEdges g kept = λ z h. elim (either_cases s (minus a1 x) z h) [
      | inl i ↦ small z i
      | inr i ↦ small1 z (minus_parts a1 x z i).0
    ] in
    let more : spans_in g (either kept a2) x ≡ true = spans_mono (spans_in g) (IsSpan-graph g)
    (either s a2) (either kept a2) x (λ z h. grind (arith, sets)) (t.second x ax) in
    IsTrees-dropped (spans_in g) (IsSpan-graph g) (edge_count g) s a1 a2 x t
    (spans_in-complete g kept x edges
    (uncrossed_joins g kept a2 (first_end_of g x) (second_end_of g x) edges none
    (spans_in-sound g (either kept a2) x more)))

-- ---- whoever moves

-- two sets of free elements that span each other
pub record TreesStand (spans : (ℕ → Bool) → ℕ → Bool) (e : ℕ) (s free : ℕ → Bool) : Type 0 where
  pub first : ℕ → Bool
  pub second : ℕ → Bool
  pub trees : IsTrees spans e s first second
  pub first_free : IsWithin first free
  pub second_free : IsWithin second free

-- the same, but one element of the first set may not be free
pub record TreesOwed (spans : (ℕ → Bool) → ℕ → Bool) (e : ℕ) (s free : ℕ → Bool) : Type 0 where
  pub first : ℕ → Bool
  pub second : ℕ → Bool
  pub lost : ℕ
  pub trees : IsTrees spans e s first second
  pub first_free : IsWithin (minus first lost) free
  pub second_free : IsWithin second free

module _ (spans : (ℕ → Bool) → ℕ → Bool) (law : IsSpan spans) (e : ℕ) where
  pub TreesOwed-stand : (s free : ℕ → Bool) → TreesStand spans e s free → TreesOwed spans e s free
  TreesOwed-stand s free t = record {
    first = t.first;
    second = t.second;
    lost = e;
    trees = t.trees;
    first_free = λ z h. t.first_free z (minus_parts t.first e z h).0;
    second_free = t.second_free;
  }

  -- the other side takes a free element
  pub TreesOwed-taken : (s free : ℕ → Bool) (v : ℕ)
      → TreesStand spans e s free
      → TreesOwed spans e s (minus free v)
  TreesOwed-taken s free v t =
      elim (cases_Bool (t.second v)) [
        | inl i ↦ record {
          first = t.second;
          second = t.first;
          lost = v;
          trees = IsTrees-other spans e s t.first t.second t.trees;
          first_free = still_free t.second free v t.second_free;
          second_free = still_free_without t.first free v t.first_free
              (false_from_ne_true _ (λ h. both_ways _ (t.trees.apart v h) i));
        }
        | inr o ↦ record {
          first = t.first;
          second = t.second;
          lost = v;
          trees = t.trees;
          first_free = still_free t.first free v t.first_free;
          second_free = still_free_without t.second free v t.second_free o;
        }
      ]

  -- some free element is an answer, where there is one
  pub TreesStand-answer : (s free : ℕ → Bool) (n z : ℕ)
      → IsBelow free n
      → free z ≡ true
      → TreesOwed spans e s free
      → (v : ℕ) × (free v ≡ true) × TreesStand spans e (plus s v) (minus free v)
  TreesStand-answer s free n z small fz t =
      let x = t.lost in
      let left = minus t.first x in
      elim (cases_Bool (t.first x)) [
        | inr o ↦ (z, fz, claimed t.first t.trees (free_again t.first free x t.first_free o))
        | inl i ↦ elim (find_below (λ q. t.second q && not (spans (either s left) q)) n) [
          | inl q ↦
              let p : (t.second q.0 ≡ true) × (not (spans (either s left) q.0) ≡ true) =
              and_parts (t.second q.0) (not (spans (either s left) q.0)) q.2 in (
                q.0,
                t.second_free q.0 p.0,
                record {
                  first = left;
                  second = minus t.second q.0;
                  trees = IsTrees-answered spans law e s t.first t.second x q.0 t.trees i p.0
                      (not-true _ p.1);
                  first_free = still_free_without left free q.0 t.first_free
                      (false_from_ne_true _
                      (λ h. both_ways _ (t.trees.apart q.0 (minus_parts t.first x q.0 h).0) p.0));
                  second_free = still_free t.second free q.0 t.second_free;
                },
              )
          | inr none ↦
              let spanned : spans (either s left) x ≡ true =
              spans_none spans law e s t.first t.second x t.trees i
              (λ y h. true_from_ne_false _ (λ o. both_ways _ (none y (small y (t.second_free y h)))
              (and_from (t.second y) (not (spans (either s left) y)) h (not_from_false _ o)))) in (
                z,
                fz,
                claimed left
                    (IsTrees-dropped spans law e s t.first t.second x t.trees spanned) t.first_free,
              )
        ]
      ]
    where
      claimed : (a : ℕ → Bool)
          → IsTrees spans e s a t.second
          → IsWithin a free
          → TreesStand spans e (plus s z) (minus free z)
      claimed a trees w = record {
        first = minus a z;
        second = minus t.second z;
        trees = IsTrees-claimed spans law e s a t.second z trees;
        first_free = still_free a free z w;
        second_free = still_free t.second free z t.second_free;
      }

  -- a set that holds s and the second set spans e
  pub TreesOwed-joins : (s free set : ℕ → Bool)
      → TreesOwed spans e s free
      → IsWithin s set
      → IsWithin free set
      → spans set e ≡ true
  TreesOwed-joins s free set t w v =
      spans_mono spans law (either s t.second) set e (λ z h. elim (either_cases s t.second z h) [
        | inl i ↦ w z i
        | inr i ↦ v z (t.second_free z i)
      ]) t.trees.second_joins
