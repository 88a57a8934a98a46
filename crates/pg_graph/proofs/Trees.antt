-- Two sets that span each other, after an edge was lost and one was claimed.
use Rattle.std.proofs.Common.{◌≡◌, ℕ, Bool, true, false, inl, inr, arith, subst}
use Rattle.pg_graph.proofs.Common.{both_ways, cases_eq, false_from_ne_true, plus, minus, either}
use Rattle.pg_graph.proofs.Common.{IsWithin, minus_parts, minus_from, plus_new, either_cases}
use Rattle.pg_graph.proofs.Common.{either_left, sets}
use Rattle.pg_graph.specs.Span.{IsSpan, IsTrees}
use Rattle.pg_graph.proofs.Swap.{spans_mono, spans_trade}

pub IsTrees-other : (spans : (ℕ → Bool) → ℕ → Bool) (e : ℕ) (s a1 a2 : ℕ → Bool)
    → IsTrees spans e s a1 a2
    → IsTrees spans e s a2 a1
IsTrees-other spans e s a1 a2 t = record {
  apart = λ f h. false_from_ne_true _ (λ k. both_ways _ (t.apart f k) h);
  first = t.second;
  first_joins = t.second_joins;
  second = t.first;
  second_joins = t.first_joins;
}

module _ (spans : (ℕ → Bool) → ℕ → Bool) (law : IsSpan spans) (e : ℕ) where
  -- what a set spans, a set that spans its members spans
  pub spans_over : (a b : ℕ → Bool) (x f : ℕ)
      → IsWithin (minus a x) b
      → spans b x ≡ true
      → spans a f ≡ true
      → spans b f ≡ true
  spans_over a b x f w s t = law.closed b a f (λ g h. elim (cases_eq x g) [
    | inl q ↦ subst (λ k. spans b k ≡ true) q s
    | inr d ↦ law.holds b g (w g (minus_from a x g h d))
  ]) t

  -- Y took x, and what is left still spans it
  pub IsTrees-dropped : (s a1 a2 : ℕ → Bool) (x : ℕ)
      → IsTrees spans e s a1 a2
      → spans (either s (minus a1 x)) x ≡ true
      → IsTrees spans e s (minus a1 x) a2
  IsTrees-dropped s a1 a2 x t sx = record {
    apart = λ f h. t.apart f (minus_parts a1 x f h).0;
    first = λ f h. spans_over (either s a1) (either s (minus a1 x)) x f
        (λ z k. grind (arith, sets)) sx (t.first f h);
    first_joins = spans_over (either s a1) (either s (minus a1 x)) x e
        (λ z k. grind (arith, sets)) sx t.first_joins;
    second = λ f h. t.second f (minus_parts a1 x f h).0;
    second_joins = t.second_joins;
  }

  -- X claims any edge, which leaves both sets
  pub IsTrees-claimed : (s a1 a2 : ℕ → Bool) (z : ℕ)
      → IsTrees spans e s a1 a2
      → IsTrees spans e (plus s z) (minus a1 z) (minus a2 z)
  IsTrees-claimed s a1 a2 z t = record {
    apart = λ f h. false_from_ne_true _
        (λ k. both_ways _ (t.apart f (minus_parts a1 z f h).0) (minus_parts a2 z f k).0);
    first = λ f h. spans_mono spans law (either s a1) (either (plus s z) (minus a1 z)) f
        (grown s a1 z) (t.first f (minus_parts a2 z f h).0);
    first_joins = spans_mono spans law (either s a1) (either (plus s z) (minus a1 z)) e
        (grown s a1 z) t.first_joins;
    second = λ f h. spans_mono spans law (either s a2) (either (plus s z) (minus a2 z)) f
        (grown s a2 z) (t.second f (minus_parts a1 z f h).0);
    second_joins = spans_mono spans law (either s a2) (either (plus s z) (minus a2 z)) e
        (grown s a2 z) t.second_joins;
  } where
    grown : (s a : ℕ → Bool) (z : ℕ) → IsWithin (either s a) (either (plus s z) (minus a z))
    grown s a z w h = elim (cases_eq z w) [
      | inl q ↦ either_left (plus s z) (minus a z) w (plus_new s z w q)
      | inr d ↦ grind (arith, sets)
    ]

  -- Y took x, and X answers with an edge of the other set that what is left doesn't span
  pub IsTrees-answered : (s a1 a2 : ℕ → Bool) (x y : ℕ)
      → IsTrees spans e s a1 a2
      → a1 x ≡ true
      → a2 y ≡ true
      → spans (either s (minus a1 x)) y ≡ false
      → IsTrees spans e (plus s y) (minus a1 x) (minus a2 y)
  IsTrees-answered s a1 a2 x y t ax ay ny = record {
    apart = λ f h. false_from_ne_true _
        (λ k. both_ways _ (t.apart f (minus_parts a1 x f h).0) (minus_parts a2 y f k).0);
    first = λ f h. over f (t.first f (minus_parts a2 y f h).0);
    first_joins = over e t.first_joins;
    second = λ f h. spans_mono spans law (either s a2) (either (plus s y) (minus a2 y)) f
        (grown s a2 y) (t.second f (minus_parts a1 x f h).0);
    second_joins = spans_mono spans law (either s a2) (either (plus s y) (minus a2 y)) e
        (grown s a2 y) t.second_joins;
  } where
    grown : (s a : ℕ → Bool) (z : ℕ) → IsWithin (either s a) (either (plus s z) (minus a z))
    grown s a z w h = elim (cases_eq z w) [
      | inl q ↦ either_left (plus s z) (minus a z) w (plus_new s z w q)
      | inr d ↦ grind (arith, sets)
    ]

    left : ℕ → Bool
    left = either s (minus a1 x)

    spans_x : spans (either (plus s y) (minus a1 x)) x ≡ true
    spans_x = spans_trade spans law (either s (minus a1 x)) (either s a1)
        (either (plus s y) (minus a1 x)) y x (λ z h. elim (cases_eq x z) [
          | inl q ↦ plus_new _ x z q
          | inr d ↦ grind (arith, sets)
        ]) (λ z h. grind (arith, sets)) ny (t.first y ay)

    over : (f : ℕ) → spans (either s a1) f ≡ true → spans (either (plus s y) (minus a1 x)) f ≡ true
    over f h = spans_over (either s a1) (either (plus s y) (minus a1 x)) x f
        (λ z k. grind (arith, sets)) spans_x h

  -- where what is left spans all of the other set, it spans x
  pub spans_none : (s a1 a2 : ℕ → Bool) (x : ℕ)
      → IsTrees spans e s a1 a2
      → a1 x ≡ true
      → ((y : ℕ) → a2 y ≡ true → spans (either s (minus a1 x)) y ≡ true)
      → spans (either s (minus a1 x)) x ≡ true
  spans_none s a1 a2 x t ax all =
      law.closed (either s (minus a1 x)) (either s a2) x (λ g h. elim (either_cases s a2 g h) [
        | inl m ↦ law.holds (either s (minus a1 x)) g (either_left s (minus a1 x) g m)
        | inr m ↦ all g m
      ]) (t.second x ax)
