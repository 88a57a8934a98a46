-- Spanning forests, an edge at a time.
use Rattle.std.proofs.Common.{◌≡◌, ℕ, ◌<◌, ◌+◌, Bool, true, false, not, ◌||◌, eqb, refl, inl, inr}
use Rattle.std.proofs.Common.{sym, subst, arith, zero, suc, ◌&&◌}
use Rattle.pg_exchange.proofs.Common.{fun_ext, cases_eq, cases_Bool, and_parts, or_cases, eqb-true}
use Rattle.pg_exchange.proofs.Common.{both_ways, plus, both, either, outside, below, IsWithin}
use Rattle.pg_exchange.proofs.Common.{IsBelow, plus_cases, plus_old, plus_new, both_parts}
use Rattle.pg_exchange.proofs.Common.{both_from, either_left, either_right, either_cases}
use Rattle.pg_exchange.proofs.Common.{outside_parts, outside_from, below_parts, below_from, Graph}
use Rattle.pg_exchange.proofs.Common.{edge_count, AreEdges, IsSpan, IsBase, spans_mono, free_plus}
use Rattle.pg_exchange.proofs.Common.{and_from, not-true, not_from_false, true_from_ne_false}
use Rattle.pg_exchange.proofs.Common.{spans_in, extended, extended-begin, extended-in, extended-out}
use Rattle.pg_exchange.specs.Matroid.{Matroid}
use Rattle.pg_exchange.specs.Forest.{elements_of, IsApart, IsFree, IsGrown}
use Rattle.pg_exchange.specs.ForestLaws.{IsSpan-graph_matroid}

-- ---- elements

or_false : (p : Bool) → p ≡ (p || false)
or_false true = refl
or_false false = refl

pub elements-without : (g : Graph) (x y : ℕ → Bool)
    → below (λ f. not (either x y f)) (edge_count g) ≡ elements_of g x y false
unfolding elements_of
elements-without g x y = fun_ext (λ z. or_false _)

pub elements-with : (g : Graph) (x y : ℕ → Bool)
    → plus (below (λ f. not (either x y f)) (edge_count g)) (edge_count g) ≡ elements_of g x y true
unfolding elements_of plus
elements-with g x y = fun_ext (λ z. refl)

pub elements-edges : (g : Graph) (x y : ℕ → Bool) (with_e : Bool)
    → AreEdges g (elements_of g x y with_e)
unfolding elements_of
elements-edges g x y with_e z h = elim (or_cases _ _ h) [
  | inl k ↦
      let low : z < edge_count g = (below_parts (λ f. not (either x y f)) (edge_count g) z k).1 in
      omega arith
  | inr k ↦
      let at : edge_count g ≡ z =
      eqb-true (edge_count g) z (and_parts with_e (eqb (edge_count g) z) k).1 in
      omega arith
]

-- ---- growing

module _ (spans : (ℕ → Bool) → ℕ → Bool) (law : IsSpan spans) (base candidates : ℕ → Bool) where
  pub IsGrown-begin : (n : ℕ)
      → n ≡ 0
      → IsFree spans base
      → IsGrown spans base (below candidates n) base
  IsGrown-begin n e free = record {
    holds = λ z h. h;
    within = λ z h. either_left base (below candidates n) z h;
    free = free;
    spanning = λ f h. let p : f < n = (below_parts candidates n f h).1 in absurd (omega arith);
  }

  wider : (n z : ℕ)
      → either base (below candidates n) z ≡ true
      → either base (below candidates (n + 1)) z ≡ true
  wider n z h = elim (either_cases base (below candidates n) z h) [
    | inl k ↦ either_left base (below candidates (n + 1)) z k
    | inr k ↦
        let p : (candidates z ≡ true) × (z < n) = below_parts candidates n z k in
        either_right base (below candidates (n + 1)) z
        (below_from candidates (n + 1) z p.0 (omega arith))
  ]

  -- what is spanned, or is no candidate, stays out
  pub IsGrown-skip : (set : ℕ → Bool) (n : ℕ)
      → (candidates n ≡ true → spans set n ≡ true)
      → IsGrown spans base (below candidates n) set
      → IsGrown spans base (below candidates (n + 1)) set
  IsGrown-skip set n out i = record {
    holds = i.holds;
    within = λ z h. wider n z (i.within z h);
    free = i.free;
    spanning = λ f h.
        let p : (candidates f ≡ true) × (f < n + 1) = below_parts candidates (n + 1) f h in
        elim (cases_eq f n) [
          | inl e ↦ subst (λ (k : ℕ). spans set k ≡ true) (sym e)
              (out (subst (λ (k : ℕ). candidates k ≡ true) e p.0))
          | inr d ↦ i.spanning f (below_from candidates n f p.0 (omega arith))
        ];
  }

  -- a candidate that isn't spanned comes in
  pub IsGrown-add : (set : ℕ → Bool) (n : ℕ)
      → candidates n ≡ true
      → spans set n ≡ false
      → IsGrown spans base (below candidates n) set
      → IsGrown spans base (below candidates (n + 1)) (plus set n)
  IsGrown-add set n on out i = record {
    holds = λ z h. plus_old set n z (i.holds z h);
    within = λ z h. elim (plus_cases set n z h) [
      | inl k ↦ wider n z (i.within z k)
      | inr e ↦ either_right base (below candidates (n + 1)) z
          (subst (λ (k : ℕ). below candidates (n + 1) k ≡ true) e
          (below_from candidates (n + 1) n on (omega arith)))
    ];
    free = free_plus spans law set n i.free out;
    spanning = λ f h.
        let p : (candidates f ≡ true) × (f < n + 1) = below_parts candidates (n + 1) f h in
        elim (cases_eq n f) [
          | inl e ↦ law.holds (plus set n) f (plus_new set n f e)
          | inr d ↦ spans_mono spans law set (plus set n) f (λ z k. plus_old set n z k)
              (i.spanning f (below_from candidates n f p.0 (omega arith)))
        ];
  }

-- what a joiner makes of a free set by candidates is grown
module _ (g : Graph) (x base candidates : ℕ → Bool)
    (free : IsFree (λ a k. spans_in g (either x a) k) base) where
  pub IsGrown-extended : (n : ℕ)
      → IsGrown (λ a k. spans_in g (either x a) k) base (below candidates n)
      (extended g x candidates base n)
  IsGrown-extended zero = subst
      (λ (s : ℕ → Bool). IsGrown (λ a k. spans_in g (either x a) k) base (below candidates 0) s)
      (extended-begin g x candidates base)
      (IsGrown-begin (λ a k. spans_in g (either x a) k) (IsSpan-graph_matroid g x x) base candidates
      0 refl free)
  IsGrown-extended (suc n) =
      let spans : (ℕ → Bool) → ℕ → Bool = λ a k. spans_in g (either x a) k in
      let law = IsSpan-graph_matroid g x x in
      let there = extended g x candidates base n in
      let before : IsGrown spans base (below candidates n) there = IsGrown-extended n in
      let next : n + 1 ≡ suc n = omega arith in
      subst
      (λ (m : ℕ). IsGrown spans base (below candidates m) (extended g x candidates base (suc n)))
      next (elim (cases_Bool (candidates n && not (spans there n))) [
        | inl t ↦
            let on : candidates n ≡ true = (and_parts _ _ t).0 in
            let out : spans there n ≡ false = not-true _ (and_parts _ _ t).1 in
            subst (λ (s : ℕ → Bool). IsGrown spans base (below candidates (n + 1)) s)
            (extended-in g x candidates base n (suc n) refl on out)
            (IsGrown-add spans law base candidates there n on out before)
        | inr o ↦
            let skip : candidates n ≡ true → spans there n ≡ true = λ on. true_from_ne_false _
            (λ out. both_ways _ o (and_from _ _ on (not_from_false _ out))) in
            subst (λ (s : ℕ → Bool). IsGrown spans base (below candidates (n + 1)) s)
            (extended-out g x candidates base n (suc n) refl skip)
            (IsGrown-skip spans law base candidates there n skip before)
      ])

-- a free set grown by the elements that aren't avoided, and then by those that are, is a base
module _ (spans : (ℕ → Bool) → ℕ → Bool) (law : IsSpan spans)
    (elements avoided none others base : ℕ → Bool) (n : ℕ) (small : IsBelow elements n)
    (empty : (z : ℕ) → none z ≡ false)
    (first : IsGrown spans none (below (outside elements avoided) n) others)
    (second : IsGrown spans others (below (both elements avoided) n) base) where
  others-outside : IsWithin others (outside elements avoided)
  others-outside z h =
      elim (either_cases none (below (outside elements avoided) n) z (first.within z h)) [
        | inl k ↦ absurd (both_ways _ (empty z) k)
        | inr k ↦ (below_parts (outside elements avoided) n z k).0
      ]

  pub IsBase-apart : IsBase spans elements base
  IsBase-apart = record {
    within =
        λ z h. elim (either_cases others (below (both elements avoided) n) z (second.within z h)) [
          | inl k ↦ (outside_parts elements avoided z (others-outside z k)).0
          | inr k ↦ (both_parts elements avoided z (below_parts (both elements avoided) n z k).0).0
        ];
    spanning = λ f h. elim (cases_Bool (avoided f)) [
      | inl t ↦ second.spanning f
          (below_from (both elements avoided) n f (both_from elements avoided f h t) (small f h))
      | inr o ↦ spans_mono spans law others base f second.holds
          (first.spanning f (below_from (outside elements avoided) n f
          (outside_from elements avoided f h o) (small f h)))
    ];
    free = second.free;
  }

  -- and has no avoided element that it doesn't need
  pub spanned-apart : (f : ℕ)
      → elements f ≡ true
      → avoided f ≡ false
      → spans (outside base avoided) f ≡ true
  spanned-apart f h o = spans_mono spans law others (outside base avoided) f
      (λ z k. outside_from base avoided z (second.holds z k)
      (outside_parts elements avoided z (others-outside z k)).1)
      (first.spanning f
      (below_from (outside elements avoided) n f (outside_from elements avoided f h o) (small f h)))

-- the same at equal matroids and sets
pub IsApart-at : (m m' : Matroid) (base base' avoided avoided' : ℕ → Bool)
    → m' ≡ m
    → base' ≡ base
    → avoided' ≡ avoided
    → IsApart m base avoided
    → IsApart m' base' avoided'
IsApart-at m m' base base' avoided avoided' same at off h =
    subst (λ (n : Matroid). IsApart n base' avoided') (sym same)
    (subst (λ (b : ℕ → Bool). IsApart m b avoided') (sym at)
    (subst (λ (b : ℕ → Bool). IsApart m base b) (sym off) h))
