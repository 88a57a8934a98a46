-- Two sets that bridge each other, after an edge was lost and one was claimed.
use Rattle.std.proofs.Common.{◌≡◌, ℕ, Bool, true, false, inl, inr, arith, ◌≢◌, ◌<◌, subst, not}
use Rattle.std.proofs.Common.{◌&&◌}
use Rattle.pg_graph.proofs.Common.{both_ways, cases_Bool, cases_eq, false_from_ne_true}
use Rattle.pg_graph.proofs.Common.{true_from_ne_false, and_parts, and_from, not-true}
use Rattle.pg_graph.proofs.Common.{not_from_false, plus, minus, outside, cut_below, IsWithin}
use Rattle.pg_graph.proofs.Common.{IsBelow, minus_parts, minus_from, plus_cases, plus_old, plus_new}
use Rattle.pg_graph.proofs.Common.{outside_parts, outside_from, sets, find_below}
use Rattle.pg_graph.specs.Span.{IsSpan, IsCuts}
use Rattle.pg_graph.proofs.Swap.{spans_mono, spans_less, spans_trade}
use Rattle.pg_graph.proofs.Circuit.{spans_cut, cut_parts}

pub IsCuts-other : (spans : (ℕ → Bool) → ℕ → Bool) (e : ℕ) (r d1 d2 : ℕ → Bool)
    → IsCuts spans e r d1 d2
    → IsCuts spans e r d2 d1
IsCuts-other spans e r d1 d2 t = record {
  apart = λ f h. false_from_ne_true _ (λ k. both_ways _ (t.apart f k) h);
  first = t.second;
  first_parts = t.second_parts;
  second = t.first;
  second_parts = t.first_parts;
  first_in = t.second_in;
  second_in = t.first_in;
  joins_in = t.joins_in;
}

module _ (spans : (ℕ → Bool) → ℕ → Bool) (law : IsSpan spans) (e : ℕ) where
  -- f is a bridge of q, and b, a part of q that holds f, doesn't span x: then f is a bridge of b
  -- with x
  bridge_kept : (q b p : ℕ → Bool) (x f : ℕ)
      → IsWithin b q
      → IsWithin p (plus b x)
      → spans (minus q f) f ≡ false
      → spans b x ≡ false
      → b f ≡ true
      → spans (minus p f) f ≡ false
  bridge_kept q b p x f v w n nx bf = false_from_ne_true _
      (λ s. both_ways _ nx (spans_trade spans law (minus b f) (minus p f) b f x (λ z h. grind (
        arith,
        sets,
      )) (λ z h. elim (plus_cases (minus b f) f z h) [
        | inl m ↦ (minus_parts b f z m).0
        | inr i ↦ subst (λ k. b k ≡ true) i bf
      ]) (spans_less spans law (minus b f) (minus q f) f (λ z h. grind (arith, sets)) n) s))

  -- X took x, which r without d1 doesn't span
  pub IsCuts-dropped : (r d1 d2 : ℕ → Bool) (x : ℕ)
      → IsCuts spans e r d1 d2
      → spans (outside r d1) x ≡ false
      → IsCuts spans e r (minus d1 x) d2
  IsCuts-dropped r d1 d2 x t n = record {
    apart = λ f h. t.apart f (minus_parts d1 x f h).0;
    first = λ f h. bridge_kept (outside r d1) (outside r d1) (outside r (minus d1 x)) x f
        (λ z k. k) more (t.first f h) n
        (outside_from r d1 f (t.second_in f h)
        (false_from_ne_true _ (λ k. both_ways _ (t.apart f k) h)));
    first_parts = λ h. elim (cases_Bool (d1 e)) [
      | inr o ↦ bridge_kept (outside r d1) (outside r d1) (outside r (minus d1 x)) x e
          (λ z k. k) more (t.first_parts o) n (outside_from r d1 e t.joins_in o)
      | inl i ↦ elim (cases_eq x e) [
        | inl q ↦ spans_less spans law (minus (outside r (minus d1 x)) e) (outside r d1) e
            (λ z k. less z q k) (subst (λ k. spans (outside r d1) k ≡ false) q n)
        | inr d ↦ absurd (both_ways _ h (minus_from d1 x e i d))
      ]
    ];
    second = λ f h. t.second f (minus_parts d1 x f h).0;
    second_parts = t.second_parts;
    first_in = λ f h. t.first_in f (minus_parts d1 x f h).0;
    second_in = t.second_in;
    joins_in = t.joins_in;
  } where
    more : IsWithin (outside r (minus d1 x)) (plus (outside r d1) x)
    more z h =
        let p : (r z ≡ true) × (minus d1 x z ≡ false) = outside_parts r (minus d1 x) z h in
        elim (cases_eq x z) [
          | inl q ↦ plus_new _ x z q
          | inr d ↦ plus_old _ x z
              (outside_from r d1 z p.0
              (false_from_ne_true _ (λ k. both_ways _ p.1 (minus_from d1 x z k d))))
        ]

    less : (z : ℕ) → x ≡ e → minus (outside r (minus d1 x)) e z ≡ true → outside r d1 z ≡ true
    less z q h =
        let p : (outside r (minus d1 x) z ≡ true) × (e ≢ z) =
        minus_parts (outside r (minus d1 x)) e z h in
        let o : (r z ≡ true) × (minus d1 x z ≡ false) = outside_parts r (minus d1 x) z p.0 in
        outside_from r d1 z o.0
        (false_from_ne_true _ (λ k. both_ways _ o.1 (minus_from d1 x z k (λ u. p.1 (cc)))))

  -- Y claims any edge, which leaves R and both sets
  pub IsCuts-claimed : (r d1 d2 : ℕ → Bool) (z : ℕ)
      → IsCuts spans e r d1 d2
      → z ≢ e
      → IsCuts spans e (minus r z) (minus d1 z) (minus d2 z)
  IsCuts-claimed r d1 d2 z t ne = record {
    apart = λ f h. false_from_ne_true _
        (λ k. both_ways _ (t.apart f (minus_parts d1 z f h).0) (minus_parts d2 z f k).0);
    first = λ f h. spans_less spans law (minus (outside (minus r z) (minus d1 z)) f)
        (minus (outside r d1) f) f (shrunk d1 f) (t.first f (minus_parts d2 z f h).0);
    first_parts = λ h. spans_less spans law (minus (outside (minus r z) (minus d1 z)) e)
        (minus (outside r d1) e) e (shrunk d1 e)
        (t.first_parts (false_from_ne_true _ (λ k. both_ways _ h (minus_from d1 z e k ne))));
    second = λ f h. spans_less spans law (minus (outside (minus r z) (minus d2 z)) f)
        (minus (outside r d2) f) f (shrunk d2 f) (t.second f (minus_parts d1 z f h).0);
    second_parts = λ h. spans_less spans law (minus (outside (minus r z) (minus d2 z)) e)
        (minus (outside r d2) e) e (shrunk d2 e)
        (t.second_parts (false_from_ne_true _ (λ k. both_ways _ h (minus_from d2 z e k ne))));
    first_in = λ f h.
        let p : (d1 f ≡ true) × (z ≢ f) = minus_parts d1 z f h in
        minus_from r z f (t.first_in f p.0) p.1;
    second_in = λ f h.
        let p : (d2 f ≡ true) × (z ≢ f) = minus_parts d2 z f h in
        minus_from r z f (t.second_in f p.0) p.1;
    joins_in = minus_from r z e t.joins_in ne;
  } where
    shrunk : (d : ℕ → Bool) (f : ℕ)
        → IsWithin (minus (outside (minus r z) (minus d z)) f) (minus (outside r d) f)
    shrunk d f w h =
        let p : (outside (minus r z) (minus d z) w ≡ true) × (f ≢ w) =
        minus_parts (outside (minus r z) (minus d z)) f w h in
        let o : (minus r z w ≡ true) × (minus d z w ≡ false) =
        outside_parts (minus r z) (minus d z) w p.0 in
        let i : (r w ≡ true) × (z ≢ w) = minus_parts r z w o.0 in
        minus_from (outside r d) f w
        (outside_from r d w i.0
        (false_from_ne_true _ (λ k. both_ways _ o.1 (minus_from d z w k i.1)))) p.1

  -- X took x, and Y answers with an edge of the other set whose removal parts it
  pub IsCuts-answered : (r d1 d2 : ℕ → Bool) (x y : ℕ)
      → IsCuts spans e r d1 d2
      → d1 x ≡ true
      → d2 y ≡ true
      → y ≢ e
      → spans (minus (outside r d1) y) x ≡ false
      → IsCuts spans e (minus r y) (minus d1 x) (minus d2 y)
  IsCuts-answered r d1 d2 x y t dx dy ne n = record {
    apart = λ f h. false_from_ne_true _
        (λ k. both_ways _ (t.apart f (minus_parts d1 x f h).0) (minus_parts d2 y f k).0);
    first = λ f h.
        let p : (d2 f ≡ true) × (y ≢ f) = minus_parts d2 y f h in
        bridge_kept (outside r d1) (minus (outside r d1) y) (outside (minus r y) (minus d1 x)) x f
        (λ z k. (minus_parts (outside r d1) y z k).0) more (t.first f p.0) n
        (minus_from (outside r d1) y f
        (outside_from r d1 f (t.second_in f p.0)
        (false_from_ne_true _ (λ k. both_ways _ (t.apart f k) p.0))) p.1);
    first_parts = λ h. elim (cases_Bool (d1 e)) [
      | inr o ↦ bridge_kept (outside r d1) (minus (outside r d1) y)
          (outside (minus r y) (minus d1 x)) x e (λ z k. (minus_parts (outside r d1) y z k).0) more
          (t.first_parts o) n (minus_from (outside r d1) y e (outside_from r d1 e t.joins_in o) ne)
      | inl i ↦ elim (cases_eq x e) [
        | inl q ↦ spans_less spans law (minus (outside (minus r y) (minus d1 x)) e)
            (minus (outside r d1) y) e (λ z k. less z q k)
            (subst (λ k. spans (minus (outside r d1) y) k ≡ false) q n)
        | inr d ↦ absurd (both_ways _ h (minus_from d1 x e i d))
      ]
    ];
    second = λ f h. spans_less spans law (minus (outside (minus r y) (minus d2 y)) f)
        (minus (outside r d2) f) f (shrunk f) (t.second f (minus_parts d1 x f h).0);
    second_parts = λ h. spans_less spans law (minus (outside (minus r y) (minus d2 y)) e)
        (minus (outside r d2) e) e (shrunk e)
        (t.second_parts (false_from_ne_true _ (λ k. both_ways _ h (minus_from d2 y e k ne))));
    first_in = λ f h.
        let p : (d1 f ≡ true) × (x ≢ f) = minus_parts d1 x f h in
        minus_from r y f (t.first_in f p.0)
        (λ q. both_ways _ (t.apart f p.0) (subst (λ k. d2 k ≡ true) q dy));
    second_in = λ f h.
        let p : (d2 f ≡ true) × (y ≢ f) = minus_parts d2 y f h in
        minus_from r y f (t.second_in f p.0) p.1;
    joins_in = minus_from r y e t.joins_in ne;
  } where
    more : IsWithin (outside (minus r y) (minus d1 x)) (plus (minus (outside r d1) y) x)
    more z h =
        let p : (minus r y z ≡ true) × (minus d1 x z ≡ false) =
        outside_parts (minus r y) (minus d1 x) z h in
        let i : (r z ≡ true) × (y ≢ z) = minus_parts r y z p.0 in
        elim (cases_eq x z) [
          | inl q ↦ plus_new _ x z q
          | inr d ↦ plus_old _ x z
              (minus_from (outside r d1) y z (outside_from r d1 z i.0
              (false_from_ne_true _ (λ k. both_ways _ p.1 (minus_from d1 x z k d)))) i.1)
        ]

    less : (z : ℕ)
        → x ≡ e
        → minus (outside (minus r y) (minus d1 x)) e z ≡ true
        → minus (outside r d1) y z ≡ true
    less z q h =
        let p : (outside (minus r y) (minus d1 x) z ≡ true) × (e ≢ z) =
        minus_parts (outside (minus r y) (minus d1 x)) e z h in
        elim (plus_cases (minus (outside r d1) y) x z (more z p.0)) [
          | inl m ↦ m
          | inr u ↦ absurd (p.1 (cc))
        ]

    shrunk : (f : ℕ)
        → IsWithin (minus (outside (minus r y) (minus d2 y)) f) (minus (outside r d2) f)
    shrunk f w h =
        let p : (outside (minus r y) (minus d2 y) w ≡ true) × (f ≢ w) =
        minus_parts (outside (minus r y) (minus d2 y)) f w h in
        let o : (minus r y w ≡ true) × (minus d2 y w ≡ false) =
        outside_parts (minus r y) (minus d2 y) w p.0 in
        let i : (r w ≡ true) × (y ≢ w) = minus_parts r y w o.0 in
        minus_from (outside r d2) f w
        (outside_from r d2 w i.0
        (false_from_ne_true _ (λ k. both_ways _ o.1 (minus_from d2 y w k i.1)))) p.1

  -- where r without d1 spans x, some edge of d2 parts it
  pub find_parting : (r d1 d2 : ℕ → Bool) (x n : ℕ)
      → IsBelow r n
      → IsCuts spans e r d1 d2
      → d1 x ≡ true
      → spans (outside r d1) x ≡ true
      → (y : ℕ) × (d2 y ≡ true) × (spans (minus (outside r d1) y) x ≡ false)
  find_parting r d1 d2 x n below t dx s =
      elim (find_below (λ y. d2 y && not (spans (minus (outside r d1) y) x)) n) [
        | inl w ↦
            let p : (d2 w.0 ≡ true) × (not (spans (minus (outside r d1) w.0) x) ≡ true) =
            and_parts (d2 w.0) (not (spans (minus (outside r d1) w.0) x)) w.2 in
            (w.0, p.0, not-true _ p.1)
        | inr none ↦ absurd (both_ways _ (t.second x dx)
            (spans_mono spans law (cut_below (outside r d1) d2 n) (minus (outside r d2) x) x (λ z h.
            let c : (outside r d1 z ≡ true) × (z < n → d2 z ≡ false) =
            cut_parts (outside r d1) d2 n z h in
            let o : (r z ≡ true) × (d1 z ≡ false) = outside_parts r d1 z c.0 in
            minus_from (outside r d2) x z (outside_from r d2 z o.0 (c.1 (below z o.0)))
            (λ q. both_ways _ o.1 (subst (λ k. d1 k ≡ true) q dx)))
            (spans_cut spans law (outside r d1) d2 x n (λ y h. (
              t.first y h,
              true_from_ne_false _ (λ k. both_ways _ (none y (below y (t.second_in y h)))
                  (and_from (d2 y) (not (spans (minus (outside r d1) y) x)) h
                  (not_from_false _ k))),
            )) s)))
      ]
