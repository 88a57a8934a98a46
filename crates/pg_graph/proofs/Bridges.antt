-- Bridges of a set of edges while its members come in one after the other.
use Rattle.std.proofs.Common.{◌≡◌, ℕ, ◌<◌, ◌+◌, Bool, true, false, inl, inr, arith, sym, ap, ◌∙◌}
use Rattle.std.proofs.Common.{subst}
use Rattle.pg_graph.proofs.Common.{cases_Bool, both_ways, false_from_ne_true, plus, minus, both}
use Rattle.pg_graph.proofs.Common.{either, outside, below, IsWithin, IsBelow, below_parts}
use Rattle.pg_graph.proofs.Common.{below_from, below_in, below_out, same_sets, minus_parts}
use Rattle.pg_graph.proofs.Common.{minus_from, both_parts, both_from, outside_parts, outside_from}
use Rattle.pg_graph.proofs.Common.{either_cases, either_left, either_right, plus_cases, sets}
use Rattle.pg_graph.specs.declared.graph.Graph.{Graph}
use Rattle.pg_graph.specs.Graph.{JoinsEndsOf, IsBridge, first_end_of, second_end_of, spans_in}
use Rattle.pg_graph.proofs.GraphLemmas.{IsSpan-graph, unspanned-from, unspanned-apart}
use Rattle.pg_graph.proofs.Growing.{plus_either}
use Rattle.pg_graph.proofs.Swap.{spans_trade}
use Rattle.pg_graph.proofs.WalkLemmas.{joined_more}

-- ---- the edges that are labelled before member k

-- the set without its members, and those of them that are below k
abbrev pub united : (ℕ → Bool) → (ℕ → Bool) → ℕ → ℕ → Bool
united set members k = either (outside set members) (below (both set members) k)

module _ (set members : ℕ → Bool) where
  pub united-begin : united set members 0 ≡ outside set members
  united-begin = same_sets _ _
      (λ z h. elim (either_cases (outside set members) (below (both set members) 0) z h) [
        | inl o ↦ o
        | inr b ↦ let low = (below_parts (both set members) 0 z b).1 in absurd (omega arith)
      ])
      (λ z h. either_left (outside set members) (below (both set members) 0) z h)

  pub united-in : (k : ℕ)
      → set k ≡ true
      → members k ≡ true
      → plus (united set members k) k ≡ united set members (k + 1)
  united-in k s m = plus_either (outside set members) (below (both set members) k) k
      ∙ ap (either (outside set members))
      (below_in (both set members) k (both_from set members k s m))

  pub united-out : (k : ℕ)
      → both set members k ≡ false
      → united set members k ≡ united set members (k + 1)
  united-out k out = ap (either (outside set members)) (below_out (both set members) k out)

  -- members that have come
  pub united-older : (k f : ℕ)
      → set f ≡ true
      → members f ≡ true
      → f < k
      → united set members k f ≡ true
  united-older k f s m l = either_right (outside set members) (below (both set members) k) f
      (below_from (both set members) k f (both_from set members f s m) l)

  united-within : (k : ℕ) → IsWithin (united set members k) set
  united-within k z h = elim (either_cases (outside set members) (below (both set members) k) z h) [
    | inl o ↦ (outside_parts set members z o).0
    | inr b ↦ (both_parts set members z (below_parts (both set members) k z b).0).0
  ]

  pub united-all : (k : ℕ) → IsBelow set k → united set members k ≡ set
  united-all k small = same_sets _ _ (united-within k)
      (λ z h. elim (cases_Bool (members z)) [
        | inl m ↦ either_right (outside set members) (below (both set members) k) z
            (below_from (both set members) k z (both_from set members z h m) (small z h))
        | inr m ↦ either_left (outside set members) (below (both set members) k) z
            (outside_from set members z h m)
      ])

  -- what is labelled before a member doesn't hold it
  united-without : (k : ℕ) → members k ≡ true → IsWithin (united set members k) (minus set k)
  united-without k m z h =
      minus_from set k z (united-within k z h)
      (λ e. elim (either_cases (outside set members) (below (both set members) k) z h) [
        | inl o ↦ both_ways _ (outside_parts set members z o).1 (subst (λ y. members y ≡ true) e m)
        | inr b ↦ let low = (below_parts (both set members) k z b).1 in absurd (omega arith)
      ])

-- ---- bridges

module _ (g : Graph) where
  -- where the ends of k aren't joined, a bridge stays one when k comes
  pub bridge-stays : (set : ℕ → Bool) (k f : ℕ)
      → set f ≡ true
      → IsBridge g set f
      → (JoinsEndsOf g set k → ⊥)
      → IsBridge g (plus set k) f
  bridge-stays set k f member bridge apart = unspanned-apart g (minus (plus set k) f) f
      (false_from_ne_true _ (λ s. both_ways _ (unspanned-from g set k apart)
      (spans_trade (spans_in g) (IsSpan-graph g) (minus set f) (minus (plus set k) f) set f k
      (λ z h. grind (arith, sets)) (λ z h. elim (plus_cases (minus set f) f z h) [
        | inl m ↦ (minus_parts set f z m).0
        | inr e ↦ subst (λ y. set y ≡ true) e member
      ]) (unspanned-from g (minus set f) f bridge) s)))

  -- and k is then a bridge
  pub bridge-comes : (set : ℕ → Bool) (k : ℕ)
      → (JoinsEndsOf g set k → ⊥)
      → IsBridge g (plus set k) k
  bridge-comes set k apart j = apart
      (joined_more (first_end_of g) (second_end_of g) (minus (plus set k) k) set (first_end_of g k)
      (second_end_of g k) (λ z h. grind (arith, sets)) j)

  -- a member whose ends are joined before it comes is no bridge
  pub no_bridge : (set members : ℕ → Bool) (k : ℕ)
      → members k ≡ true
      → JoinsEndsOf g (united set members k) k
      → IsBridge g set k
      → ⊥
  no_bridge set members k m j bridge = bridge
      (joined_more (first_end_of g) (second_end_of g) (united set members k) (minus set k)
      (first_end_of g k) (second_end_of g k) (united-without set members k m) j)

  -- an edge outside the set is a bridge just where the set doesn't join its ends
  pub outside-bridge : (set : ℕ → Bool) (f : ℕ) → (JoinsEndsOf g set f → ⊥) → IsBridge g set f
  outside-bridge set f apart j = apart (joined_more (first_end_of g) (second_end_of g)
      (minus set f) set (first_end_of g f) (second_end_of g f) (λ z h. (minus_parts set f z h).0) j)

  pub bridge-outside : (set : ℕ → Bool) (f : ℕ)
      → set f ≡ false
      → IsBridge g set f
      → JoinsEndsOf g set f
      → ⊥
  bridge-outside set f out bridge j = bridge (joined_more (first_end_of g) (second_end_of g) set
      (minus set f) (first_end_of g f) (second_end_of g f)
      (λ z h. minus_from set f z h (λ e. both_ways _ out (subst (λ y. set y ≡ true) (sym e) h))) j)
