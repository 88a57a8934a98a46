-- Bases after an element was swapped.
use Rattle.std.proofs.Common.{◌≡◌, ℕ, Bool, true, false, inl, inr, arith, sym, ◌≢◌, subst}
use Rattle.pg_graph.proofs.Common.{both_ways, cases_eq, false_from_ne_true, plus, minus, IsWithin}
use Rattle.pg_graph.proofs.Common.{minus_parts, minus_from, plus_cases, plus_old, sets}
use Rattle.pg_graph.specs.Span.{IsSpan, IsBase, swapped}

module _ (spans : (ℕ → Bool) → ℕ → Bool) (law : IsSpan spans) where
  pub spans_mono : (a b : ℕ → Bool) (f : ℕ) → IsWithin a b → spans a f ≡ true → spans b f ≡ true
  spans_mono a b f w s = law.closed b a f (λ g h. law.holds b g (w g h)) s

  pub spans_less : (a b : ℕ → Bool) (f : ℕ) → IsWithin a b → spans b f ≡ false → spans a f ≡ false
  spans_less a b f w s = false_from_ne_true _ (λ t. both_ways _ s (spans_mono a b f w t))

  -- where a doesn't span f, and with g added does, a with f added spans g: with sets that hold more
  -- or less
  pub spans_trade : (a b c : ℕ → Bool) (f g : ℕ)
      → IsWithin b (plus a g)
      → IsWithin (plus a f) c
      → spans a f ≡ false
      → spans b f ≡ true
      → spans c g ≡ true
  spans_trade a b c f g v w n s =
      spans_mono (plus a f) c g w (law.trades a f g n (spans_mono b (plus a g) f v s))

  -- a swap spans what was spanned
  pub swap_spans : (b : ℕ → Bool) (y x f : ℕ)
      → b y ≡ true
      → spans b x ≡ true
      → spans (minus b y) x ≡ false
      → spans b f ≡ true
      → spans (swapped b y x) f ≡ true
  unfolding swapped
  swap_spans b y x f by sx n s =
      let sy : spans (plus (minus b y) x) y ≡ true = spans_trade (minus b y) b
      (plus (minus b y) x) x y (λ z h. grind (arith, sets)) (λ z h. h) n sx in
      law.closed (plus (minus b y) x) b f
      (λ g h. elim (cases_eq y g) [
        | inl e ↦ subst (λ k. spans (plus (minus b y) x) k ≡ true) e sy
        | inr d ↦ law.holds _ g (plus_old _ x g (minus_from b y g h d))
      ])
      s

  -- a swap leaves each member free
  pub swap_free : (b : ℕ → Bool) (y x : ℕ)
      → b y ≡ true
      → ((f : ℕ) → b f ≡ true → spans (minus b f) f ≡ false)
      → spans (minus b y) x ≡ false
      → (z : ℕ) → swapped b y x z ≡ true
      → spans (minus (swapped b y x) z) z ≡ false
  unfolding swapped
  swap_free b y x by free n z h =
      false_from_ne_true _ (λ s. elim (plus_cases (minus b y) x z h) [
        | inr e ↦
            both_ways _ n (spans_mono (minus (plus (minus b y) x) z) (minus b y) x (λ w m. grind (
              arith,
              sets,
            )) (subst (λ k. spans (minus (plus (minus b y) x) z) k ≡ true) (sym e) s))
        | inl m ↦
            let p : (b z ≡ true) × (y ≢ z) = minus_parts b y z m in
            let less : spans (minus (minus b y) z) z ≡ false =
            spans_less _ (minus b z) z (λ w k. grind (arith, sets)) (free z p.0) in
            both_ways _ n
            (spans_trade (minus (minus b y) z) (minus (plus (minus b y) x) z) (minus b y) z x
            (λ w k. grind (arith, sets)) (λ w k. grind (arith, sets)) less s)
      ])

  swap_within : (e b : ℕ → Bool) (y x : ℕ) → IsWithin b e → e x ≡ true → IsWithin (swapped b y x) e
  unfolding swapped
  swap_within e b y x w ex z h = elim (plus_cases (minus b y) x z h) [
    | inl m ↦ w z (minus_parts b y z m).0
    | inr q ↦ subst (λ k. e k ≡ true) q ex
  ]

  -- (a) a swap leaves a base
  pub IsBase-swap : (e b : ℕ → Bool) (y x : ℕ)
      → IsBase spans e b
      → e x ≡ true
      → b y ≡ true
      → spans (minus b y) x ≡ false
      → IsBase spans e (swapped b y x)
  IsBase-swap e b y x base ex by n = record {
    within = swap_within e b y x base.within ex;
    spanning = λ f ef. swap_spans b y x f by (base.spanning x ex) n (base.spanning f ef);
    free = swap_free b y x by base.free n;
  }
