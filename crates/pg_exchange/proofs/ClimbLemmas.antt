-- Steps up from two labels, until they meet.
use Rattle.std.proofs.Common.{◌≡◌, ◌≢◌, ◌⊎◌, ℕ, ◌<◌, ◌≤◌, Bool, true, false, inl, inr, refl, sym}
use Rattle.std.proofs.Common.{ap}
use Rattle.std.proofs.Common.{◌∙◌, subst, arith}
use Rattle.pg_exchange.proofs.Common.{both_ways, false_from_ne_true, plus, minus, plus_cases}
use Rattle.pg_exchange.proofs.Common.{plus_old, plus_new, minus_parts, IsJoined, joined_on}
use Rattle.pg_exchange.proofs.Common.{joined_back, joined_more}
use Rattle.pg_exchange.specs.Path.{HasEnds, IsStep, IsPath, IsClimbed}
use Rattle.pg_exchange.proofs.PathLemmas.{IsTrail-begin, IsTrail-step, stays}

module _ (a b : ℕ → ℕ) (base : ℕ → Bool) (depth above via : ℕ → ℕ) where
  pub IsClimbed-begin : (from to : ℕ) (found : ℕ → Bool)
      → ((z : ℕ) → found z ≡ false)
      → IsClimbed a b base depth above via from to from to found
  IsClimbed-begin from to found none = record {
    first = found;
    second = found;
    gone_first = λ _. false;
    gone_second = λ _. false;
    one = IsTrail-begin a b base depth above via from found none;
    other = IsTrail-begin a b base depth above via to found none;
    parts = λ k h. inl h;
    holds_first = λ k h. h;
    holds_second = λ k h. h;
    apart = λ c h. refl;
    low_first = λ c h. absurd (both_ways _ refl h);
    low_second = λ c h. absurd (both_ways _ refl h);
    clear_first = refl;
    clear_second = refl;
  }

  -- seen from the other end
  pub IsClimbed-turned : (from to p q : ℕ) (found : ℕ → Bool)
      → IsClimbed a b base depth above via from to p q found
      → IsClimbed a b base depth above via to from q p found
  IsClimbed-turned from to p q found t = record {
    first = t.second;
    second = t.first;
    gone_first = t.gone_second;
    gone_second = t.gone_first;
    one = t.other;
    other = t.one;
    parts = λ k h. elim (t.parts k h) [ inl f ↦ inr f | inr s ↦ inl s ];
    holds_first = t.holds_second;
    holds_second = t.holds_first;
    apart = λ c h. false_from_ne_true _ (λ g. both_ways _ (t.apart c g) h);
    low_first = t.low_second;
    low_second = t.low_first;
    clear_first = t.clear_second;
    clear_second = t.clear_first;
  }

  module _ (from to p q : ℕ) (found : ℕ → Bool)
      (t : IsClimbed a b base depth above via from to p q found) where
    -- one step up from the deeper label
    pub IsClimbed-step : (reached : ℕ → Bool)
        → p ≢ q
        → depth q ≤ depth p
        → IsStep a b base reached above via depth p
        → IsClimbed a b base depth above via from to (above p) q (plus found (via p))
    IsClimbed-step reached d deep s = record {
      first = plus t.first (via p);
      second = t.second;
      gone_first = plus t.gone_first p;
      gone_second = t.gone_second;
      one = IsTrail-step a b base depth above via from p t.first t.gone_first t.one reached s;
      other = t.other;
      parts = λ k h. elim (plus_cases found (via p) k h) [
        | inl g ↦ elim (t.parts k g) [ inl f ↦ inl (plus_old t.first (via p) k f) | inr s ↦ inr s ]
        | inr e ↦ inl (plus_new t.first (via p) k e)
      ];
      holds_first = λ k h. elim (plus_cases t.first (via p) k h) [
        | inl f ↦ plus_old found (via p) k (t.holds_first k f)
        | inr e ↦ plus_new found (via p) k e
      ];
      holds_second = λ k h. plus_old found (via p) k (t.holds_second k h);
      apart = λ c h. elim (plus_cases t.gone_first p c h) [
        | inl g ↦ t.apart c g
        | inr e ↦ subst (λ (z : ℕ). t.gone_second z ≡ false) e t.clear_second
      ];
      low_first = λ c h. elim (plus_cases t.gone_first p c h) [
        | inl g ↦ t.low_first c g
        | inr e ↦ subst (λ (z : ℕ). depth q ≤ depth z) e deep
      ];
      low_second = λ c h.
          let l : depth p ≤ depth c = t.low_second c h in
          let m : depth (above p) < depth p = s.lower in
          omega arith;
      clear_first = false_from_ne_true _ (λ h. elim (plus_cases t.gone_first p q h) [
        | inl g ↦ both_ways _ t.clear_first g
        | inr e ↦ d e
      ]);
      clear_second = false_from_ne_true _ (λ h.
          let l : depth p ≤ depth (above p) = t.low_second (above p) h in
          let m : depth (above p) < depth p = s.lower in omega arith);
    }

    -- a member found from one end has both its ends away from what is gone from the other
    away : (k : ℕ) → t.second k ≡ true → (t.gone_first (a k) ≡ false) × (t.gone_first (b k) ≡ false)
    away k h =
        let w = t.other.only k h in
        let c : ℕ = w.0 in
        let here : t.gone_first c ≡ false =
        false_from_ne_true _ (λ g. both_ways _ (t.apart c g) w.1) in
        let up : t.gone_first (above c) ≡ false = false_from_ne_true _ (λ g.
        elim (t.other.next c w.1) [
          | inl i ↦ both_ways _ (t.apart (above c) g) i
          | inr e ↦ both_ways _ t.clear_first (subst (λ (z : ℕ). t.gone_first z ≡ true) e g)
        ]) in
        let ends : HasEnds a b k c (above c) =
        subst (λ (z : ℕ). HasEnds a b z c (above c)) w.2 (t.other.ends c w.1) in
        elim ends [
          | inl e ↦ (ap t.gone_first e.0 ∙ here, ap t.gone_first e.1 ∙ up)
          | inr e ↦ (ap t.gone_first e.0 ∙ up, ap t.gone_first e.1 ∙ here)
        ]

    -- without a member found from the first end, what is found doesn't join the ends
    parted : (y : ℕ) → t.first y ≡ true → IsJoined a b (minus found y) from to → ⊥
    parted y h j =
        let s = t.one.sides y h in
        let off : (z : ℕ) → t.gone_first z ≡ false → s.side z ≡ false =
        λ z n. false_from_ne_true _ (λ on. both_ways _ n (s.only z on)) in
        let closed : (k : ℕ) → minus found y k ≡ true → s.side (a k) ≡ s.side (b k) = λ k m.
        let r = minus_parts found y k m in
        elim (t.parts k r.0) [
          | inl f ↦ s.closed k f r.1
          | inr g ↦ let w = away k g in off (a k) w.0 ∙ sym (off (b k) w.1)
        ] in
        let same : s.side from ≡ s.side to =
        stays a b (minus found y) s.side closed j.edges from to j.walk in
        let gone : t.gone_first to ≡ true = s.only to (sym same ∙ s.begins) in
        elim t.other.begins [
          | inl g ↦ both_ways _ (t.apart to gone) g
          | inr e ↦ both_ways _ t.clear_first (subst (λ (z : ℕ). t.gone_first z ≡ true) e gone)
        ]

  -- where the two ways meet, the members found are a path
  pub IsPath-climbed : (from to p q : ℕ) (found : ℕ → Bool)
      → p ≡ q
      → IsClimbed a b base depth above via from to p q found
      → IsPath a b base from to found
  unfolding IsClimbed-turned
  IsPath-climbed from to p q found e t = record {
    within = λ k h. elim (t.parts k h) [ inl f ↦ t.one.within k f | inr s ↦ t.other.within k s ];
    joined = joined_on a b found from p to
        (joined_more a b t.first found from p t.holds_first t.one.joined)
        (joined_back a b found to p (subst (λ (z : ℕ). IsJoined a b found to z) (sym e)
        (joined_more a b t.second found to q t.holds_second t.other.joined)));
    apart = λ y h j. elim (t.parts y h) [
      | inl f ↦ parted from to p q found t y f j
      | inr s ↦ parted to from q p found (IsClimbed-turned from to p q found t) y s
          (joined_back a b (minus found y) from to j)
    ];
  }

  -- ---- from either end

  -- steps were followed from both ends, the first of which may be either
  abbrev pub IsClimbedEither : ℕ → ℕ → ℕ → ℕ → (ℕ → Bool) → Type 0
  IsClimbedEither from to p q found = IsClimbed a b base depth above via from to p q found
      ⊎ IsClimbed a b base depth above via to from p q found

  pub IsClimbedEither-turned : (from to p q deep high : ℕ) (found : ℕ → Bool)
      → ((deep ≡ p) × (high ≡ q)) ⊎ ((deep ≡ q) × (high ≡ p))
      → IsClimbedEither from to p q found
      → IsClimbedEither from to deep high found
  IsClimbedEither-turned from to p q deep high found same t =
      elim same [
        | inl e ↦ subst (λ (y : ℕ). IsClimbedEither from to y high found) (sym e.0)
            (subst (λ (y : ℕ). IsClimbedEither from to p y found) (sym e.1) t)
        | inr e ↦ subst (λ (y : ℕ). IsClimbedEither from to y high found) (sym e.0)
            (subst (λ (y : ℕ). IsClimbedEither from to q y found) (sym e.1) (elim t [
              | inl i ↦ inr (IsClimbed-turned from to p q found i)
              | inr i ↦ inl (IsClimbed-turned to from p q found i)
            ]))
      ]

  pub IsClimbedEither-step : (from to p q : ℕ) (found reached : ℕ → Bool)
      → p ≢ q
      → depth q ≤ depth p
      → IsStep a b base reached above via depth p
      → IsClimbedEither from to p q found
      → IsClimbedEither from to (above p) q (plus found (via p))
  IsClimbedEither-step from to p q found reached d deep s t =
      elim t [
        | inl i ↦ inl (IsClimbed-step from to p q found i reached d deep s)
        | inr i ↦ inr (IsClimbed-step to from p q found i reached d deep s)
      ]

  pub IsPath-either : (from to p q : ℕ) (found : ℕ → Bool)
      → p ≡ q
      → IsClimbedEither from to p q found
      → IsPath a b base from to found
  IsPath-either from to p q found e t =
      elim t [
        | inl i ↦ IsPath-climbed from to p q found e i
        | inr i ↦ IsPath-climbed from to q p found (sym e) (IsClimbed-turned to from p q found i)
      ]
