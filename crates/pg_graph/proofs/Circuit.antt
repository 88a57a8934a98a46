-- Circuits, and members that a set can do without.
use Rattle.std.proofs.Common.{◌≡◌, ℕ, Bool, true, false, inl, inr, refl, arith, sym, ◌≢◌, ◌<◌}
use Rattle.std.proofs.Common.{subst, ltb, not, ◌&&◌, suc, zero}
use Rattle.pg_graph.proofs.Common.{both_ways, cases_Bool, cases_eq, cases_lt, false_from_ne_true}
use Rattle.pg_graph.proofs.Common.{true_from_ne_false, and_parts, and_from, and_cases, and_left}
use Rattle.pg_graph.proofs.Common.{and_right, not-true, not_from_false, lt-ltb, le-ltb, plus, minus}
use Rattle.pg_graph.proofs.Common.{IsWithin, IsBelow, cut_below, minus_from, plus_cases, plus_old}
use Rattle.pg_graph.proofs.Common.{plus_new, sets}
use Rattle.pg_graph.specs.Span.{IsSpan, IsBase, swapped, circuit}
use Rattle.pg_graph.proofs.Swap.{spans_mono, spans_less, spans_trade}

pub cut_parts : (a d : ℕ → Bool) (n z : ℕ)
    → cut_below a d n z ≡ true
    → (a z ≡ true) × (z < n → d z ≡ false)
unfolding cut_below
cut_parts a d n z h =
    let p : (a z ≡ true) × (not (ltb z n && d z) ≡ true) =
    and_parts (a z) (not (ltb z n && d z)) h in (
      p.0,
      λ l. elim (and_cases (ltb z n) (d z) (not-true _ p.1)) [
        | inl e ↦ absurd (both_ways _ e (lt-ltb z n l))
        | inr e ↦ e
      ],
    )

pub cut_from : (a d : ℕ → Bool) (n z : ℕ)
    → a z ≡ true
    → (z < n → d z ≡ false)
    → cut_below a d n z ≡ true
unfolding cut_below
cut_from a d n z h g =
    and_from (a z) (not (ltb z n && d z)) h (not_from_false (ltb z n && d z)
    (elim (cases_lt z n) [
      | inl l ↦ and_right (ltb z n) (d z) (g l)
      | inr l ↦ and_left (ltb z n) (d z) (le-ltb z n l)
    ]))

cut_step : (a d : ℕ → Bool) (n : ℕ) → IsWithin (cut_below a d n) (plus (cut_below a d (suc n)) n)
cut_step a d n z h =
    let p : (a z ≡ true) × (z < n → d z ≡ false) = cut_parts a d n z h in
    elim (cases_eq n z) [
      | inl e ↦ plus_new _ n z e
      | inr k ↦ plus_old _ n z (cut_from a d (suc n) z p.0 (λ l. p.1 (omega arith)))
    ]

cut_skip : (a d : ℕ → Bool) (n : ℕ)
    → d n ≡ false
    → IsWithin (cut_below a d n) (cut_below a d (suc n))
cut_skip a d n f z h =
    let p : (a z ≡ true) × (z < n → d z ≡ false) = cut_parts a d n z h in
    cut_from a d (suc n) z p.0 (λ l. elim (cases_eq n z) [
      | inl e ↦ subst (λ k. d k ≡ false) e f
      | inr k ↦ p.1 (omega arith)
    ])

pub circuit_parts : (spans : (ℕ → Bool) → ℕ → Bool) (b : ℕ → Bool) (f y : ℕ)
    → circuit spans b f y ≡ true
    → (b y ≡ true) × (spans (minus b y) f ≡ false)
unfolding circuit
circuit_parts spans b f y h =
    let p = and_parts (b y) (not (spans (minus b y) f)) h in
    (p.0, not-true _ p.1)

pub circuit_from : (spans : (ℕ → Bool) → ℕ → Bool) (b : ℕ → Bool) (f y : ℕ)
    → b y ≡ true
    → spans (minus b y) f ≡ false
    → circuit spans b f y ≡ true
unfolding circuit
circuit_from spans b f y h n = and_from (b y) (not (spans (minus b y) f)) h (not_from_false _ n)

module _ (spans : (ℕ → Bool) → ℕ → Bool) (law : IsSpan spans) where
  -- what a set with one more spans, a set that spans both spans
  pub spans_through : (a b : ℕ → Bool) (x f : ℕ)
      → IsWithin a b
      → spans b x ≡ true
      → spans (plus a x) f ≡ true
      → spans b f ≡ true
  spans_through a b x f w s t =
      law.closed b (plus a x) f
      (λ g h. elim (plus_cases a x g h) [
        | inl m ↦ law.holds b g (w g m)
        | inr e ↦ subst (λ k. spans b k ≡ true) e s
      ])
      t

  -- members that are free in q, and each of which may go, may go together
  pub spans_cut : (q d : ℕ → Bool) (x n : ℕ)
      → ((y : ℕ) → d y ≡ true → (spans (minus q y) y ≡ false) × (spans (minus q y) x ≡ true))
      → spans q x ≡ true
      → spans (cut_below q d n) x ≡ true
  spans_cut q d x zero free s = spans_mono spans law q (cut_below q d zero) x
      (λ z h. cut_from q d zero z h (λ l. absurd (omega arith))) s
  spans_cut q d x (suc n) free s =
      let before : spans (cut_below q d n) x ≡ true = spans_cut q d x n free s in
      elim (cases_Bool (d n)) [
        | inr f ↦ spans_mono spans law (cut_below q d n) (cut_below q d (suc n)) x
            (cut_skip q d n f) before
        | inl t ↦ true_from_ne_false _ (λ no.
            let p : (spans (minus q n) n ≡ false) × (spans (minus q n) x ≡ true) = free n t in
            let back : spans (plus (cut_below q d (suc n)) x) n ≡ true =
            spans_trade spans law (cut_below q d (suc n)) (cut_below q d n)
            (plus (cut_below q d (suc n)) x) x n (cut_step q d n) (λ z h. h) no before in
            both_ways _ p.0 (spans_through (cut_below q d (suc n)) (minus q n) x n (λ z h.
            let c : (q z ≡ true) × (z < suc n → d z ≡ false) = cut_parts q d (suc n) z h in
            minus_from q n z c.0
            (λ e. both_ways _ (c.1 (omega arith)) (subst (λ k. d k ≡ true) e t))) p.1 back))
      ]

  -- the circuit of f spans f
  pub spans-circuit : (b : ℕ → Bool) (f n : ℕ)
      → IsBelow b n
      → ((y : ℕ) → b y ≡ true → spans (minus b y) y ≡ false)
      → spans b f ≡ true
      → spans (circuit spans b f) f ≡ true
  spans-circuit b f n below free s =
      spans_mono spans law (cut_below b (out b f) n) (circuit spans b f) f (λ z h.
      let c : (b z ≡ true) × (z < n → out b f z ≡ false) = cut_parts b (out b f) n z h in
      circuit_from spans b f z c.0 (false_from_ne_true _
      (λ t. both_ways _ (c.1 (below z c.0)) (and_from (b z) (spans (minus b z) f) c.0 t))))
      (spans_cut b (out b f) f n (λ y h.
      let p : (b y ≡ true) × (spans (minus b y) f ≡ true) =
      and_parts (b y) (spans (minus b y) f) h in
      (free y p.0, p.1)) s)
    where
      out : (ℕ → Bool) → ℕ → ℕ → Bool
      out b f y = b y && spans (minus b y) f

  -- (b) a circuit that doesn't hold what a swap takes out is the same after it
  pub circuit-swapped_true : (e b : ℕ → Bool) (y x f n : ℕ)
      → IsBelow b n
      → IsBase spans e b
      → e f ≡ true
      → b y ≡ true
      → spans (minus b y) x ≡ false
      → circuit spans b f y ≡ false
      → (z : ℕ) → circuit spans (swapped b y x) f z ≡ true
      → circuit spans b f z ≡ true
  unfolding swapped
  circuit-swapped_true e b y x f n below base ef by nx ny z h = true_from_ne_false _ (λ no.
      let p : (plus (minus b y) x z ≡ true) × (spans (minus (plus (minus b y) x) z) f ≡ false) =
      circuit_parts spans (plus (minus b y) x) f z h in
      both_ways _ p.1
      (spans_mono spans law (circuit spans b f) (minus (plus (minus b y) x) z) f (λ w k.
      let q : (b w ≡ true) × (spans (minus b w) f ≡ false) = circuit_parts spans b f w k in
      minus_from (plus (minus b y) x) z w (plus_old (minus b y) x w (minus_from b y w q.0 (λ e.
      both_ways _ ny (subst (λ i. circuit spans b f i ≡ true) (sym e) k))))
      (λ e. both_ways _ no (subst (λ i. circuit spans b f i ≡ true) (sym e) k)))
      (spans-circuit b f n below base.free (base.spanning f ef))))

  pub circuit-swapped_from : (e b : ℕ → Bool) (y x f : ℕ)
      → IsBase spans e b
      → b y ≡ true
      → spans (minus b y) x ≡ false
      → circuit spans b f y ≡ false
      → (z : ℕ) → circuit spans b f z ≡ true
      → circuit spans (swapped b y x) f z ≡ true
  unfolding swapped
  circuit-swapped_from e b y x f base by nx ny z h =
      let q : (b z ≡ true) × (spans (minus b z) f ≡ false) = circuit_parts spans b f z h in
      let d : y ≢ z = λ e. both_ways _ ny (subst (λ i. circuit spans b f i ≡ true) (sym e) h) in
      let f_without : spans (minus b y) f ≡ true =
      true_from_ne_false _ (λ no. both_ways _ ny (circuit_from spans b f y by no)) in
      circuit_from spans (plus (minus b y) x) f z
      (plus_old (minus b y) x z (minus_from b y z q.0 d)) (false_from_ne_true _ (λ s.
      let less : spans (minus (minus b y) z) f ≡ false =
      spans_less spans law (minus (minus b y) z) (minus b z) f (λ w k. grind (arith, sets)) q.1 in
      let t : spans (plus (minus (minus b y) z) f) x ≡ true =
      spans_trade spans law (minus (minus b y) z) (minus (plus (minus b y) x) z)
      (plus (minus (minus b y) z) f) f x (λ w k. grind (arith, sets)) (λ w k. k) less s in
      both_ways _ nx (spans_through (minus (minus b y) z) (minus b y) f x (λ w k. grind (
        arith,
        sets,
      )) f_without t)))

  pub circuit-swapped : (e b : ℕ → Bool) (y x f n : ℕ)
      → IsBelow b n
      → IsBase spans e b
      → e f ≡ true
      → b y ≡ true
      → spans (minus b y) x ≡ false
      → circuit spans b f y ≡ false
      → (z : ℕ) → circuit spans (swapped b y x) f z ≡ circuit spans b f z
  circuit-swapped e b y x f n below base ef by nx ny z =
      same_tests _ _ (circuit-swapped_true e b y x f n below base ef by nx ny z)
      (circuit-swapped_from e b y x f base by nx ny z)
    where
      same_tests : (p q : Bool) → (p ≡ true → q ≡ true) → (q ≡ true → p ≡ true) → p ≡ q
      same_tests true q h g = sym (h refl)
      same_tests false true h g = g refl
      same_tests false false h g = refl
