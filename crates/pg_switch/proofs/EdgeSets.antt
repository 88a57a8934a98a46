-- Edges that are left at a position, and sets of edges that are trees or cuts.
use Rattle.std.proofs.Common.{◌≡◌, ℕ, ◌<◌, ◌≤◌, suc, Bool, true, false, not, ◌&&◌, inl, inr, refl}
use Rattle.std.proofs.Common.{sym, ap, ◌∙◌, subst, arith}
use Rattle.pg_switch.proofs.Common.{both_ways, false_from_ne_true, not-true, not_from_false, FinSet}
use Rattle.pg_switch.proofs.Common.{contains, nat_cmp, minus, outside, IsWithin, IsBelow, Side, X}
use Rattle.pg_switch.proofs.Common.{Y, below_parts, below_from, either_cases, Graph, edge_count}
use Rattle.pg_switch.proofs.Common.{first_end_of, second_end_of, spans_in, IsBridge, AreEdges}
use Rattle.pg_switch.proofs.Common.{IsTrees, IsCuts, edge_spans, joins_same, spans_in-sound}
use Rattle.pg_switch.proofs.Common.{spans_in-complete, unspanned-from, unspanned-apart, Position}
use Rattle.pg_switch.proofs.Common.{AreBelow, AreFreeEdges, AreFreeWithE, with_set, without_set}
use Rattle.pg_switch.proofs.Common.{AreTrees, AreCuts, free-of}
use Rattle.pg_switch.specs.Claims.{kept}

-- the edges that aren't Y's, with e
abbrev pub left_edges : Graph → Position → ℕ → Bool
left_edges h p = kept (suc (edge_count h)) p

pub left_edges-below : (h : Graph) (p : Position) → IsBelow (left_edges h p) (suc (edge_count h))
left_edges-below h p z l = (below_parts (λ f. not (contains p.y f)) (suc (edge_count h)) z l).1

-- an edge that isn't Y's, or e, is left
pub left_edges-from : (h : Graph) (p : Position) (f : ℕ)
    → f ≤ edge_count h
    → contains p.y f ≡ false
    → left_edges h p f ≡ true
left_edges-from h p f low out = below_from (λ k. not (contains p.y k)) (suc (edge_count h)) f
    (not_from_false _ out) (omega arith)

-- e is no edge of a side
pub no_e : (h : Graph) (s : FinSet nat_cmp)
    → AreBelow s (edge_count h)
    → contains s (edge_count h) ≡ false
no_e h s small =
    false_from_ne_true _ (λ k. let low = small (edge_count h) k in absurd (omega arith))

-- ---- sets that agree on the edges

pub spans-same : (h : Graph) (x y : ℕ → Bool) (f : ℕ)
    → ((k : ℕ) → k < suc (edge_count h) → x k ≡ y k)
    → spans_in h x f ≡ spans_in h y f
unfolding edge_spans
spans-same h x y f same = joins_same (first_end_of h) (second_end_of h) x y (suc (edge_count h))
    (first_end_of h f) (second_end_of h f) same

pub minus-agree : (x y : ℕ → Bool) (f n : ℕ)
    → ((k : ℕ) → k < n → x k ≡ y k)
    → (k : ℕ) → k < n
    → minus x f k ≡ minus y f k
unfolding minus
minus-agree x y f n same k low = rw (same k low) refl

pub bridge-same : (h : Graph) (x y : ℕ → Bool) (f : ℕ)
    → ((k : ℕ) → k < suc (edge_count h) → x k ≡ y k)
    → IsBridge h x f
    → IsBridge h y f
bridge-same h x y f same b = unspanned-apart h (minus y f) f
    (sym (spans-same h (minus x f) (minus y f) f (minus-agree x y f (suc (edge_count h)) same))
    ∙ unspanned-from h (minus x f) f b)

-- what is left without a set is so on the edges
pub without-agree : (h : Graph) (p : Position) (d : FinSet nat_cmp) (k : ℕ)
    → k < suc (edge_count h)
    → without_set p d k ≡ outside (left_edges h p) (contains d) k
unfolding outside
without-agree h p d k low = ap (λ b. b && not (contains d k)) (sym (at (contains p.y k) refl))
  where
    at : (b : Bool) → contains p.y k ≡ b → left_edges h p k ≡ not (contains p.y k)
    at true e = false_from_ne_true _ (λ l. both_ways _
        (not-true _ (below_parts (λ f. not (contains p.y f)) (suc (edge_count h)) k l).0) e)
        ∙ sym (ap not e)
    at false e = below_from (λ f. not (contains p.y f)) (suc (edge_count h)) k (ap not e) low
        ∙ sym (ap not e)

pub unspanned-without : (h : Graph) (p : Position) (d : FinSet nat_cmp) (f : ℕ)
    → IsBridge h (without_set p d) f
    → spans_in h (minus (outside (left_edges h p) (contains d)) f) f ≡ false
unspanned-without h p d f b = unspanned-from h (minus (outside (left_edges h p) (contains d)) f) f
    (bridge-same h (without_set p d) (outside (left_edges h p) (contains d)) f
    (without-agree h p d) b)

pub bridge-without : (h : Graph) (p : Position) (d : FinSet nat_cmp) (f : ℕ)
    → spans_in h (minus (outside (left_edges h p) (contains d)) f) f ≡ false
    → IsBridge h (without_set p d) f
bridge-without h p d f out = bridge-same h (outside (left_edges h p) (contains d))
    (without_set p d) f (λ k low. sym (without-agree h p d k low))
    (unspanned-apart h (minus (outside (left_edges h p) (contains d)) f) f out)

-- ---- trees and cuts of a position

-- members are edges, or e
pub with_e-edges : (h : Graph) (p : Position) (side : Side) (a : FinSet nat_cmp)
    → AreFreeWithE h p side a
    → AreEdges h (contains a)
with_e-edges h p side a free f k = elim (free f k) [
  | inl i ↦ let low = i.0 in omega arith
  | inr e ↦ omega (arith, e.0)
]

pub free-edges : (h : Graph) (p : Position) (a : FinSet nat_cmp)
    → AreFreeEdges h p a
    → AreEdges h (contains a)
free-edges h p a free f k = let low = (free f k).0 in omega arith

pub with_set-edges : (h : Graph) (p : Position) (a : FinSet nat_cmp)
    → AreBelow p.x (edge_count h)
    → AreEdges h (contains a)
    → AreEdges h (with_set p a)
with_set-edges h p a small edges f k = elim (either_cases (contains p.x) (contains a) f k) [
  | inl i ↦ let low = small f i in omega arith
  | inr i ↦ edges f i
]

-- trees as the laws of spanning know them
pub IsTrees-from : (h : Graph) (p : Position) (a1 a2 : FinSet nat_cmp)
    → AreBelow p.x (edge_count h)
    → AreTrees h p a1 a2
    → IsTrees (spans_in h) (edge_count h) (contains p.x) (contains a1) (contains a2)
IsTrees-from h p a1 a2 small t =
    let one = with_set-edges h p a1 small (with_e-edges h p X a1 t.first_free) in
    let two = with_set-edges h p a2 small (free-edges h p a2 t.second_free) in
    record {
      apart = t.apart;
      first = λ f k. spans_in-complete h (with_set p a1) f one (t.first f k);
      first_joins = spans_in-complete h (with_set p a1) (edge_count h) one t.first_joins;
      second = λ f k. spans_in-complete h (with_set p a2) f two (t.second f k);
      second_joins = spans_in-complete h (with_set p a2) (edge_count h) two t.second_joins;
    }

pub AreTrees-from : (h : Graph) (p : Position) (a1 a2 : FinSet nat_cmp)
    → AreFreeWithE h p X a1
    → AreFreeEdges h p a2
    → IsTrees (spans_in h) (edge_count h) (contains p.x) (contains a1) (contains a2)
    → AreTrees h p a1 a2
AreTrees-from h p a1 a2 free1 free2 t = record {
  first_free = free1;
  second_free = free2;
  apart = t.apart;
  first = λ f k. spans_in-sound h (with_set p a1) f (t.first f k);
  first_joins = spans_in-sound h (with_set p a1) (edge_count h) t.first_joins;
  second = λ f k. spans_in-sound h (with_set p a2) f (t.second f k);
  second_joins = spans_in-sound h (with_set p a2) (edge_count h) t.second_joins;
}

-- a free edge, and e, is left
pub left-free : (h : Graph) (p : Position) (side : Side) (d : FinSet nat_cmp)
    → AreBelow p.y (edge_count h)
    → AreFreeWithE h p side d
    → IsWithin (contains d) (left_edges h p)
left-free h p side d small free f k = elim (free f k) [
  | inl i ↦ let low = i.0 in left_edges-from h p f (omega arith) (free-of p Y f i.1)
  | inr e ↦ left_edges-from h p f (omega (arith, e.0))
      (subst (λ (w : ℕ). contains p.y w ≡ false) (sym e.0) (no_e h p.y small))
]

pub IsCuts-from : (h : Graph) (p : Position) (d1 d2 : FinSet nat_cmp)
    → AreBelow p.y (edge_count h)
    → AreCuts h p d1 d2
    → IsCuts (spans_in h) (edge_count h) (left_edges h p) (contains d1) (contains d2)
IsCuts-from h p d1 d2 small t = record {
  apart = t.apart;
  first = λ f k. unspanned-without h p d1 f (t.first f k);
  first_parts = λ k. unspanned-without h p d1 (edge_count h) (t.first_parts k);
  second = λ f k. unspanned-without h p d2 f (t.second f k);
  second_parts = λ k. unspanned-without h p d2 (edge_count h) t.second_parts;
  first_in = left-free h p Y d1 small t.first_free;
  second_in = left-free h p Y d2 small (λ f k. inl (t.second_free f k));
  joins_in = left_edges-from h p (edge_count h) (omega arith) (no_e h p.y small);
}

pub AreCuts-from : (h : Graph) (p : Position) (d1 d2 : FinSet nat_cmp)
    → AreFreeWithE h p Y d1
    → AreFreeEdges h p d2
    → IsCuts (spans_in h) (edge_count h) (left_edges h p) (contains d1) (contains d2)
    → AreCuts h p d1 d2
AreCuts-from h p d1 d2 free1 free2 t = record {
  first_free = free1;
  second_free = free2;
  apart = t.apart;
  first = λ f k. bridge-without h p d1 f (t.first f k);
  first_parts = λ k. bridge-without h p d1 (edge_count h) (t.first_parts k);
  second = λ f k. bridge-without h p d2 f (t.second f k);
  second_parts = bridge-without h p d2 (edge_count h)
      (t.second_parts
      (false_from_ne_true _ (λ k. let low = (free2 (edge_count h) k).0 in absurd (omega arith))));
}
