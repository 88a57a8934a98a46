-- Spanning over a fixed set, and circuits within a base.
use Rattle.std.proofs.Common.{◌≡◌, ℕ, Bool, true, false, inl, inr, arith, sym, ◌≢◌, subst}
use Rattle.pg_graph.proofs.Common.{both_ways, cases_eq, false_from_ne_true, true_from_ne_false}
use Rattle.pg_graph.proofs.Common.{plus, minus, either, IsWithin, minus_parts, minus_from}
use Rattle.pg_graph.proofs.Common.{plus_cases, plus_old, plus_new, either_cases, either_left}
use Rattle.pg_graph.proofs.Common.{either_right, sets}
use Rattle.pg_graph.specs.Span.{IsSpan, circuit}
use Rattle.pg_graph.proofs.Swap.{spans_mono, spans_less, spans_trade}
use Rattle.pg_graph.proofs.Circuit.{spans_through, circuit_parts, circuit_from}

module _ (spans : (ℕ → Bool) → ℕ → Bool) (law : IsSpan spans) where
  -- a set that always helps leaves the three laws
  pub IsSpan-over : (x : ℕ → Bool) → IsSpan (λ a f. spans (either x a) f)
  IsSpan-over x = record {
    holds = λ a f h. law.holds (either x a) f (either_right x a f h);
    closed =
        λ a b f each s. law.closed (either x a) (either x b) f (λ g h. elim (either_cases x b g h) [
          | inl k ↦ law.holds (either x a) g (either_left x a g k)
          | inr k ↦ each g k
        ]) s;
    trades = λ a f g n s. spans_trade spans law (either x a) (either x (plus a g))
        (either x (plus a f)) f g (λ z h. grind (arith, sets)) (λ z h. grind (arith, sets)) n s;
  }

  -- a greedy step: what isn't spanned may come in
  pub free_plus : (b : ℕ → Bool) (g : ℕ)
      → ((f : ℕ) → b f ≡ true → spans (minus b f) f ≡ false)
      → spans b g ≡ false
      → (z : ℕ) → plus b g z ≡ true
      → spans (minus (plus b g) z) z ≡ false
  free_plus b g free n z h =
      false_from_ne_true _ (λ s. elim (cases_eq g z) [
        | inl e ↦ both_ways _ n
            (subst (λ k. spans b k ≡ true) (sym e)
            (spans_mono spans law (minus (plus b g) z) b z (λ w m. grind (arith, sets)) s))
        | inr d ↦
            let bz : b z ≡ true = member h d in
            both_ways _ n
            (spans_trade spans law (minus b z) (minus (plus b g) z) b z g
            (λ w m. grind (arith, sets)) (λ w m. elim (plus_cases (minus b z) z w m) [
              | inl k ↦ (minus_parts b z w k).0
              | inr e ↦ subst (λ k. b k ≡ true) e bz
            ]) (free z bz) s)
      ])
    where
      member : plus b g z ≡ true → g ≢ z → b z ≡ true
      member h d = elim (plus_cases b g z h) [ inl k ↦ k | inr e ↦ absurd (d e) ]

  -- a part of a base that spans f holds the circuit of f, and tells it
  pub circuit_in : (b p : ℕ → Bool) (f y : ℕ)
      → IsWithin p b
      → ((z : ℕ) → b z ≡ true → spans (minus b z) z ≡ false)
      → spans p f ≡ true
      → circuit spans b f y ≡ true
      → (p y ≡ true) × (spans (minus p y) f ≡ false)
  circuit_in b p f y w free s h =
      let q : (b y ≡ true) × (spans (minus b y) f ≡ false) = circuit_parts spans b f y h in (
        true_from_ne_false _ (λ out. both_ways _ q.1
            (spans_mono spans law p (minus b y) f (λ z k. minus_from b y z (w z k)
            (λ e. both_ways _ out (subst (λ i. p i ≡ true) (sym e) k))) s)),
        spans_less spans law (minus p y) (minus b y) f
            (λ z k. let i : (p z ≡ true) × (y ≢ z) = minus_parts p y z k in minus_from b y z
            (w z i.0) i.1) q.1,
      )

  pub circuit_by : (b p : ℕ → Bool) (f y : ℕ)
      → IsWithin p b
      → ((z : ℕ) → b z ≡ true → spans (minus b z) z ≡ false)
      → spans p f ≡ true
      → p y ≡ true
      → spans (minus p y) f ≡ false
      → circuit spans b f y ≡ true
  circuit_by b p f y w free s py n = circuit_from spans b f y (w y py) (false_from_ne_true _ (λ t.
      both_ways _ (free y (w y py)) (spans_through spans law (minus p y) (minus b y) f y (λ z k.
      let i : (p z ≡ true) × (y ≢ z) = minus_parts p y z k in minus_from b y z (w z i.0) i.1) t
      (spans_trade spans law (minus p y) p (plus (minus p y) f) f y (λ z k. elim (cases_eq y z) [
        | inl e ↦ plus_new (minus p y) y z e
        | inr d ↦ plus_old (minus p y) y z (minus_from p y z k d)
      ]) (λ z k. k) n s))))
