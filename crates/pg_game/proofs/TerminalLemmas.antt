-- The terminals of a graph are joined where walks join them.
use Rattle.std.proofs.Common.{◌≡◌, ◌≢◌, ℕ, eqb, ltb, eq-eqb, ne_eqb, zero, suc, ◌<◌, ◌+◌, Bool}
use Rattle.std.proofs.Common.{true, false, not, ◌&&◌, ◌||◌, refl, sym, ap, ◌∙◌, inl, inr, arith}
use Rattle.std.specs.Prelude.{◌↔◌, IsTrue}
use Rattle.pg_game.proofs.Common.{Decides, cases_Bool, cases_eq, cases_lt, both_ways}
use Rattle.pg_game.proofs.Common.{false_from_ne_true, and_from, or_left, not_from_false, lt-ltb}
use Rattle.pg_game.proofs.Common.{le-ltb, FinSet, contains, insert, nat_cmp, in_insert, below}
use Rattle.pg_game.proofs.Common.{IsBelow, joins, first_end, second_end, edge_count, first_end_of}
use Rattle.pg_game.proofs.Common.{second_end_of, IsJoinedIn, joins_in, Graph, joins_in-sound}
use Rattle.pg_game.proofs.Common.{joins_in-complete, joins_in-edges, joins_same, joins-below}
use Rattle.pg_game.proofs.Common.{first_end_of-edge, second_end_of-edge}
use Rattle.pg_graph.proofs.WalkLemmas.{joins_sound, joins_complete}
use Rattle.pg_game.specs.Field.{terminals_joined}
use Rattle.pg_game.specs.Walked.{AreConnected}

-- only the ends of the edges below n count
joins_ends : (a b c d : ℕ → ℕ) (set : ℕ → Bool) (n u v : ℕ)
    → ((k : ℕ) → k < n → a k ≡ c k)
    → ((k : ℕ) → k < n → b k ≡ d k)
    → joins a b set n u v ≡ joins c d set n u v
unfolding joins
joins_ends a b c d set zero u v first second = refl
joins_ends a b c d set (suc n) u v first second =
    let p = λ (k : ℕ) (l : k < n). first k (omega arith) in
    let q = λ (k : ℕ) (l : k < n). second k (omega arith) in
    rw (
      first n (omega arith),
      second n (omega arith),
      joins_ends a b c d set n u v p q,
      joins_ends a b c d set n u (c n) p q,
      joins_ends a b c d set n u (d n) p q,
      joins_ends a b c d set n (c n) v p q,
      joins_ends a b c d set n (d n) v p q,
    )

-- the edges of the list are enough for a set of them
terminals-joins_in : (h : Graph) (set : ℕ → Bool)
    → IsBelow set (edge_count h)
    → terminals_joined h set ≡ joins_in h set h.s h.t
terminals-joins_in h set small =
    let out : set (edge_count h) ≡ false =
    false_from_ne_true _ (λ on. let low = small (edge_count h) on in absurd (omega arith)) in
    sym (joins_in-edges h set h.s h.t out
    ∙ joins_ends (first_end_of h) (second_end_of h) (first_end h.ends) (second_end h.ends) set
    (edge_count h) h.s h.t (first_end_of-edge h) (second_end_of-edge h))

-- what a joiner answers of a set of edges
pub terminals-from_joined : (h : Graph) (set : ℕ → Bool) (r : Bool)
    → IsBelow set (edge_count h)
    → (IsTrue r ↔ IsJoinedIn h set h.s h.t)
    → r ≡ terminals_joined h set
terminals-from_joined h set r small joined =
    let same = terminals-joins_in h set small in
    elim (cases_Bool r) [
      | inl on ↦ on
          ∙ sym (same
          ∙ joins_in-complete h set h.s h.t (λ k in_set. let low = small k in_set in omega arith)
          (joined.0 on))
      | inr off ↦ off
          ∙ sym (false_from_ne_true _
          (λ on. both_ways _ off (joined.1 (joins_in-sound h set h.s h.t (sym same ∙ on)))))
    ]

-- two sets of the same edges join the same
pub terminals-same : (h : Graph) (x y : ℕ → Bool)
    → ((k : ℕ) → k < edge_count h → x k ≡ y k)
    → terminals_joined h x ≡ terminals_joined h y
terminals-same h x y same =
    joins_same (first_end h.ends) (second_end h.ends) x y (edge_count h) h.s h.t same

-- ---- walks

-- the terminals are joined exactly where a walk of edges of the set leads from one to the other
pub terminals-decides : (h : Graph) (set : ℕ → Bool)
    → Decides (terminals_joined h set) (AreConnected h set)
terminals-decides h set = (
  λ on. joins_sound (first_end h.ends) (second_end h.ends) (below set (edge_count h)) (edge_count h)
      h.s h.t (joins-below (first_end h.ends) (second_end h.ends) set (edge_count h) h.s h.t ∙ on),
  λ walk. joins_complete (first_end h.ends) (second_end h.ends) set (edge_count h) h.s h.t walk,
)
