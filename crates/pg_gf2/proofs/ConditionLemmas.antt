-- Trees and cuts by what two sets span and by the bridges of two sets.
use Rattle.std.proofs.Common.{◌≡◌, ◌≢◌, ℕ, ◌<◌, suc, Bool, true, false, not, nat_lt, inl, inr, refl}
use Rattle.std.proofs.Common.{sym, ◌∙◌, subst, arith}
use Rattle.pg_gf2.proofs.Common.{both_ways, cases_eq, and_parts, false_from_ne_true, not-true}
use Rattle.pg_gf2.proofs.Common.{not_from_false, FinSet, contains, nat_cmp, AreBelow, ShareNone}
use Rattle.pg_gf2.proofs.Common.{below, either, minus, outside, plus, IsWithin, Side, X, Y}
use Rattle.pg_gf2.proofs.Common.{below_from, below_parts, same_sets, minus_from, minus_parts}
use Rattle.pg_gf2.proofs.Common.{outside_from, outside_parts, plus_cases, plus_new, plus_old}
use Rattle.pg_gf2.proofs.Common.{Position, is_free, kept, left_without, AreFree, AreFreeOrE}
use Rattle.pg_gf2.proofs.Common.{AreSpanTrees, AreSpanCuts, IsSpanBridge}
use Rattle.std.proofs.lemmas.Bool.Decides.{nat_tests}

module _ (spans : (ℕ → Bool) → ℕ → Bool) (n : ℕ) (p : Position) where
  not_e : (set : FinSet nat_cmp) → AreFree n p set → contains set n ≡ false
  not_e set free =
      false_from_ne_true _ (λ k. let low : n < n = (free n k).0 in absurd (omega arith))

  -- ---- trees

  -- each member of the set, and e, is spanned by X's and another set
  abbrev pub SpansWith : FinSet nat_cmp → FinSet nat_cmp → Type 0
  SpansWith by set = (f : ℕ) → plus (contains set) n f ≡ true
      → spans (either (contains p.x) (contains by)) f ≡ true

  pub trees_from : (a1 a2 : FinSet nat_cmp)
      → AreFreeOrE n p X a1 × AreFree n p a2 × ShareNone a1 a2
      → SpansWith a1 a2
      → SpansWith a2 a1
      → AreSpanTrees spans n p a1 a2
  trees_from a1 a2 apart one two = record {
    first_free = apart.0;
    second_free = apart.1;
    apart = apart.2;
    first = λ f h. one f (plus_old (contains a2) n f h);
    first_joins = one n (plus_new (contains a2) n n refl);
    second = λ f h. two f (plus_old (contains a1) n f h);
    second_joins = two n (plus_new (contains a1) n n refl);
  }

  pub trees_first : (a1 a2 : FinSet nat_cmp) → AreSpanTrees spans n p a1 a2 → SpansWith a1 a2
  trees_first a1 a2 t f h = elim (plus_cases (contains a2) n f h) [
    | inl k ↦ t.first f k
    | inr e ↦
        subst (λ (z : ℕ). spans (either (contains p.x) (contains a1)) z ≡ true) e t.first_joins
  ]

  pub trees_second : (a1 a2 : FinSet nat_cmp) → AreSpanTrees spans n p a1 a2 → SpansWith a2 a1
  trees_second a1 a2 t f h = elim (plus_cases (contains a1) n f h) [
    | inl k ↦ t.second f k
    | inr e ↦
        subst (λ (z : ℕ). spans (either (contains p.x) (contains a2)) z ≡ true) e t.second_joins
  ]

  -- ---- cuts

  -- each member of the set is a bridge of what is left without another set
  abbrev pub PartsWithout : FinSet nat_cmp → (ℕ → Bool) → Type 0
  PartsWithout by set = (f : ℕ) → set f ≡ true → IsSpanBridge spans (left_without n p by) f

  -- the members of the second set, and e where the first doesn't have it
  abbrev pub parted : FinSet nat_cmp → FinSet nat_cmp → ℕ → Bool
  parted d1 d2 = outside (plus (contains d2) n) (contains d1)

  pub cuts_from : (d1 d2 : FinSet nat_cmp)
      → AreFreeOrE n p Y d1 × AreFree n p d2 × ShareNone d1 d2
      → PartsWithout d1 (parted d1 d2)
      → PartsWithout d2 (plus (contains d1) n)
      → AreSpanCuts spans n p d1 d2
  cuts_from d1 d2 apart one two = record {
    first_free = apart.0;
    second_free = apart.1;
    apart = apart.2;
    first = λ f h. one f
        (outside_from (plus (contains d2) n) (contains d1) f (plus_old (contains d2) n f h)
        (false_from_ne_true _ (λ k. both_ways _ (apart.2 f k) h)));
    first_parts = λ out. one n
        (outside_from (plus (contains d2) n) (contains d1) n (plus_new (contains d2) n n refl) out);
    second = λ f h. two f (plus_old (contains d1) n f h);
    second_parts = two n (plus_new (contains d1) n n refl);
  }

  pub cuts_first : (d1 d2 : FinSet nat_cmp)
      → AreSpanCuts spans n p d1 d2
      → PartsWithout d1 (parted d1 d2)
  cuts_first d1 d2 t f h =
      let q = outside_parts (plus (contains d2) n) (contains d1) f h in
      elim (plus_cases (contains d2) n f q.0) [
        | inl k ↦ t.first f k
        | inr e ↦ subst (λ (z : ℕ). IsSpanBridge spans (left_without n p d1) z) e
            (t.first_parts (subst (λ (z : ℕ). contains d1 z ≡ false) (sym e) q.1))
      ]

  pub cuts_second : (d1 d2 : FinSet nat_cmp)
      → AreSpanCuts spans n p d1 d2
      → PartsWithout d2 (plus (contains d1) n)
  cuts_second d1 d2 t f h = elim (plus_cases (contains d1) n f h) [
    | inl k ↦ t.second f k
    | inr e ↦ subst (λ (z : ℕ). IsSpanBridge spans (left_without n p d2) z) e t.second_parts
  ]

  -- the bridges are in the sets that they are bridges of
  module _ (y_range : AreBelow p.y n) where
    no_y : contains p.y n ≡ false
    no_y = false_from_ne_true _ (λ k. let low : n < n = y_range n k in absurd (omega arith))

    kept_e : kept (suc n) p n ≡ true
    kept_e = below_from (λ f. not (contains p.y f)) (suc n) n (not_from_false _ no_y) (omega arith)

    kept_free : (f : ℕ) → f < n → is_free p f ≡ true → kept (suc n) p f ≡ true
    kept_free f low free =
        below_from (λ k. not (contains p.y k)) (suc n) f (and_parts _ _ free).1 (omega arith)

    pub parted_left : (d1 d2 : FinSet nat_cmp)
        → AreFree n p d2
        → IsWithin (parted d1 d2) (left_without n p d1)
    parted_left d1 d2 free f h =
        let q = outside_parts (plus (contains d2) n) (contains d1) f h in
        outside_from (kept (suc n) p) (contains d1) f (elim (plus_cases (contains d2) n f q.0) [
          | inl k ↦ kept_free f (free f k).0 (free f k).1
          | inr e ↦ subst (λ (z : ℕ). kept (suc n) p z ≡ true) e kept_e
        ]) q.1

    pub first_left : (d1 d2 : FinSet nat_cmp)
        → AreFreeOrE n p Y d1
        → AreFree n p d2
        → ShareNone d1 d2
        → IsWithin (plus (contains d1) n) (left_without n p d2)
    first_left d1 d2 free1 free2 apart f h = elim (plus_cases (contains d1) n f h) [
      | inl k ↦ outside_from (kept (suc n) p) (contains d2) f (elim (free1 f k) [
        | inl i ↦ kept_free f i.0 i.1
        | inr i ↦ subst (λ (z : ℕ). kept (suc n) p z ≡ true) (sym i.0) kept_e
      ]) (apart f k)
      | inr e ↦ subst (λ (z : ℕ). left_without n p d2 z ≡ true) e
          (outside_from (kept (suc n) p) (contains d2) n kept_e (not_e d2 free2))
    ]

    pub parted_below : (d1 d2 : FinSet nat_cmp)
        → AreFree n p d2
        → (f : ℕ) → parted d1 d2 f ≡ true
        → f < suc n
    parted_below d1 d2 free f h = elim (plus_cases (contains d2) n f
        (outside_parts (plus (contains d2) n) (contains d1) f h).0) [
          | inl k ↦ let low = (free f k).0 in omega arith
          | inr e ↦ omega (arith, e)
        ]

  pub second_below : (set : FinSet nat_cmp)
      → AreFree n p set
      → (f : ℕ) → plus (contains set) n f ≡ true
      → f < suc n
  second_below set free f h = elim (plus_cases (contains set) n f h) [
    | inl k ↦ let low = (free f k).0 in omega arith
    | inr e ↦ omega (arith, e)
  ]

  pub first_below : (side : Side) (set : FinSet nat_cmp)
      → AreFreeOrE n p side set
      → (f : ℕ) → plus (contains set) n f ≡ true
      → f < suc n
  first_below side set free f h =
      elim (plus_cases (contains set) n f h) [
        | inl k ↦ elim (free f k) [
          | inl i ↦ let low = i.0 in omega arith
          | inr i ↦ omega (arith, i.0)
        ]
        | inr e ↦ omega (arith, e)
      ]

-- ---- free vectors with e

module _ (n : ℕ) (p : Position) (side : Side) (set rest : FinSet nat_cmp)
    (taken : contains rest ≡ minus (contains set) n) where
  in_rest : (f : ℕ) → contains set f ≡ true → n ≢ f → contains rest f ≡ true
  in_rest f h d =
      subst (λ (s : ℕ → Bool). s f ≡ true) (sym taken) (minus_from (contains set) n f h d)

  pub free_mine : AreFree n p rest → p.turn ≡ side → AreFreeOrE n p side set
  free_mine free mine f h = elim (cases_eq n f) [
    | inl e ↦ inr (sym e, mine)
    | inr d ↦ inl (free f (in_rest f h d))
  ]

  pub free_none : AreFree n p rest → contains set n ≡ false → AreFreeOrE n p side set
  free_none free none f h = elim (cases_eq n f) [
    | inl e ↦ absurd (both_ways _ none (subst (λ (z : ℕ). contains set z ≡ true) (sym e) h))
    | inr d ↦ inl (free f (in_rest f h d))
  ]

  pub free_rest : AreFreeOrE n p side set → AreFree n p rest
  free_rest free f h =
      let q = minus_parts (contains set) n f (subst (λ (s : ℕ → Bool). s f ≡ true) taken h) in
      elim (free f q.0) [ inl i ↦ i | inr i ↦ absurd (q.1 (sym i.0)) ]

  pub turn_of : AreFreeOrE n p side set → contains set n ≡ true → p.turn ≡ side
  turn_of free h = elim (free n h) [
    | inl i ↦ (let low : n < n = i.0 in absurd (omega arith))
    | inr i ↦ i.1
  ]

-- the vectors that aren't Y's, and e
pub kept-sets : (all y left : FinSet nat_cmp) (n : ℕ)
    → ((v : ℕ) → contains all v ≡ nat_lt v n)
    → contains left ≡ outside (contains all) (contains y)
    → contains left ≡ below (λ f. not (contains y f)) n
kept-sets all y left n all_is left_is = left_is
    ∙ same_sets _ _ (λ z k.
    let q = outside_parts (contains all) (contains y) z k in
    below_from (λ f. not (contains y f)) n z (not_from_false _ q.1)
    (let l : nat_lt z n ≡ true = sym (all_is z) ∙ q.0 in grind (arith, nat_tests, l))) (λ z k.
    let q = below_parts (λ f. not (contains y f)) n z k in
    outside_from (contains all) (contains y) z
    (all_is z ∙ (let l : z < n = q.1 in grind (arith, nat_tests, l))) (not-true _ q.0))
