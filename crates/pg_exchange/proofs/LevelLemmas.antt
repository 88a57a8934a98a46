-- A search that goes level by level.
use Rattle.std.proofs.Common.{◌≡◌, ℕ, Bool, true, false, ◌⊎◌, inl, inr, refl, arith, sym, ◌∙◌, ap}
use Rattle.std.proofs.Common.{◌≤◌, subst, suc, zero, cond}
use Rattle.pg_exchange.proofs.Common.{both_ways, cases_Bool, cases_lt, false_from_ne_true, either}
use Rattle.pg_exchange.proofs.Common.{outside, IsWithin, either_cases, either_left, either_right}
use Rattle.pg_exchange.proofs.Common.{outside_parts}
use Rattle.pg_exchange.specs.Matroid.{Matroid}
use Rattle.pg_exchange.specs.Chain.{links, LeadsIn, IsNearest, IsShortest, IsSearch, IsLevelled}
use Rattle.pg_exchange.specs.Chain.{IsRolled, IsNext}
use Rattle.pg_exchange.specs.Chain.LeadsIn.{at_once, further}

-- a link before a chain
pub LeadsIn-before : (m : Matroid) (b c : ℕ → Bool) (w x : ℕ) {y n : ℕ}
    → either (links m b w) (links m c w) x ≡ true
    → LeadsIn m b c x y n
    → LeadsIn m b c w y (suc n)
LeadsIn-before m b c w x k at_once = further x at_once k
LeadsIn-before m b c w x k (further z l j) = further z (LeadsIn-before m b c w x k l) j

-- what was seen keeps its depth, and what is new lies one deeper than the level
laid : (ℕ → ℕ) → (ℕ → Bool) → ℕ → ℕ → ℕ
laid depth seen now z = cond (seen z) (depth z) (suc now)

laid-old : (depth : ℕ → ℕ) (seen : ℕ → Bool) (now z : ℕ)
    → seen z ≡ true
    → laid depth seen now z ≡ depth z
unfolding laid
laid-old depth seen now z h = rw h refl

laid-new : (depth : ℕ → ℕ) (seen : ℕ → Bool) (now z : ℕ)
    → seen z ≡ false
    → laid depth seen now z ≡ suc now
unfolding laid
laid-new depth seen now z h = rw h refl

module _ (m : Matroid) (b c from to : ℕ → Bool) where
  nearest : (start z n : ℕ)
      → from start ≡ true
      → LeadsIn m b c start z n
      → n ≤ 0
      → (from z ≡ true) × (0 ≤ n)
  nearest start z zero s at_once l = (s, omega arith)
  nearest start z (suc n) s (further y k j) l = absurd (omega arith)

  pub IsLevelled-begin : (level later : ℕ → Bool) (up : ℕ → ℕ)
      → ((z : ℕ) → later z ≡ false)
      → IsLevelled m b c from to from level later up
  IsLevelled-begin level later up none = record {
    depth = λ _. 0;
    now = 0;
    begun = λ z h. refl;
    deeper = λ z h o. absurd (both_ways _ o h);
    reached = λ z h. (z, h, at_once);
    near = nearest;
    most = λ z h. omega arith;
    at_level = λ z h. refl;
    at_later = λ z h. absurd (both_ways _ (none z) h);
    first = λ z start stop n h t s e l. omega arith;
  }

  module _ (seen level later : ℕ → Bool) (up : ℕ → ℕ)
      (v : IsLevelled m b c from to seen level later up) where
    -- the level is done, and the next one is followed
    module _ (s : IsSearch m b c from seen (either level later))
        (empty : (z : ℕ) → level z ≡ false) where
      beyond : (start z n : ℕ)
          → from start ≡ true
          → LeadsIn m b c start z n
          → n ≤ suc v.now
          → (seen z ≡ true) × (v.depth z ≤ n)
      beyond start z zero o at_once l = v.near start z 0 o at_once (omega arith)
      beyond start _ (suc n) o (further {y = w} z k j) l =
          let p : (seen w ≡ true) × (v.depth w ≤ n) = v.near start w n o k (omega arith) in
          let done : either level later w ≡ false =
          false_from_ne_true _ (λ h. elim (either_cases level later w h) [
            | inl i ↦ both_ways _ (empty w) i
            | inr i ↦ let d : v.depth w ≡ suc v.now = v.at_later w i in omega arith
          ]) in
          let here : seen z ≡ true = s.followed w p.0 done z j in
          elim (cases_lt v.now (suc n)) [
            | inl lt ↦ (here, let d : v.depth z ≤ suc v.now = v.most z here in omega arith)
            | inr ge ↦ v.near start z (suc n) o (further z k j) (omega arith)
          ]

      pub IsLevelled-next : (later' : ℕ → Bool)
          → ((z : ℕ) → later' z ≡ false)
          → IsLevelled m b c from to seen later later' up
      IsLevelled-next later' none = record {
        depth = v.depth;
        now = suc v.now;
        begun = v.begun;
        deeper = v.deeper;
        reached = v.reached;
        near = beyond;
        most = λ z h. let d : v.depth z ≤ suc v.now = v.most z h in omega arith;
        at_level = v.at_later;
        at_later = λ z h. absurd (both_ways _ (none z) h);
        first = v.first;
      }

    -- an element of the level is followed, where nothing of `to` is seen
    module _ (f : ℕ) (on : level f ≡ true) (here : seen f ≡ true)
        (missed : (z : ℕ) → seen z ≡ true → to z ≡ false) (inside : IsWithin from seen)
        (known : (z : ℕ) → level z ≡ true → seen z ≡ true)
        (known_later : (z : ℕ) → later z ≡ true → seen z ≡ true)
        (above : (z : ℕ) → seen z ≡ true → from z ≡ false → seen (up z) ≡ true) where
      pub IsLevelled-step : (seen2 level2 later2 : ℕ → Bool) (up2 : ℕ → ℕ)
          → IsWithin seen seen2
          → ((z : ℕ) → seen2 z ≡ true
          → seen z ≡ false
          → (either (links m b f) (links m c f) z ≡ true) × (up2 z ≡ f))
          → ((z : ℕ) → seen z ≡ true → up2 z ≡ up z)
          → IsWithin level2 level
          → ((z : ℕ) → later2 z ≡ true → (later z ≡ true) ⊎ (seen z ≡ false))
          → IsLevelled m b c from to seen2 level2 later2 up2
      IsLevelled-step seen2 level2 later2 up2 more fresh same less cases = record {
        depth = laid v.depth seen v.now;
        now = v.now;
        begun = λ z h. laid-old v.depth seen v.now z (inside z h) ∙ v.begun z h;
        deeper = λ z h o. elim (cases_Bool (seen z)) [
          | inl k ↦ laid-old v.depth seen v.now z k
              ∙ (v.deeper z k o
              ∙ ap suc (sym (laid-old v.depth seen v.now (up z) (above z k o))
              ∙ ap (laid v.depth seen v.now) (sym (same z k))))
          | inr n ↦ laid-new v.depth seen v.now z n
              ∙ ap suc (sym (laid-old v.depth seen v.now f here ∙ v.at_level f on)
              ∙ ap (laid v.depth seen v.now) (sym (fresh z h n).1))
        ];
        reached = λ z h. elim (cases_Bool (seen z)) [
          | inl k ↦
              let w = v.reached z k in (
                w.0,
                w.1,
                subst (λ (n : ℕ). LeadsIn m b c w.0 z n)
                    (sym (laid-old v.depth seen v.now z k)) w.2,
              )
          | inr n ↦
              let w = v.reached f here in (
                w.0,
                w.1,
                subst (λ (k : ℕ). LeadsIn m b c w.0 z k)
                    (ap suc (v.at_level f on) ∙ sym (laid-new v.depth seen v.now z n))
                    (further z w.2 (fresh z h n).0),
              )
        ];
        near = λ start z n o l d.
            let p = v.near start z n o l d in (
              more z p.0,
              let e : laid v.depth seen v.now z ≡ v.depth z = laid-old v.depth seen v.now z p.0 in
                  let q : v.depth z ≤ n = p.1 in
                  omega arith,
            );
        most = λ z h. elim (cases_Bool (seen z)) [
          | inl k ↦
              let e : laid v.depth seen v.now z ≡ v.depth z = laid-old v.depth seen v.now z k in
              let q : v.depth z ≤ suc v.now = v.most z k in
              omega arith
          | inr n ↦
              let e : laid v.depth seen v.now z ≡ suc v.now = laid-new v.depth seen v.now z n in
              omega arith
        ];
        at_level =
            λ z h. laid-old v.depth seen v.now z (known z (less z h)) ∙ v.at_level z (less z h);
        at_later = λ z h. elim (cases z h) [
          | inl k ↦ laid-old v.depth seen v.now z (known_later z k) ∙ v.at_later z k
          | inr n ↦ laid-new v.depth seen v.now z n
        ];
        first = λ z start stop n h t s e l. elim (cases_Bool (seen z)) [
          | inl k ↦ absurd (both_ways _ (missed z k) t)
          | inr o ↦ elim (cases_lt v.now n) [
            | inl lt ↦
                let q : laid v.depth seen v.now z ≡ suc v.now = laid-new v.depth seen v.now z o in
                omega arith
            | inr ge ↦
                absurd (both_ways _ (missed stop (v.near start stop n s l (omega arith)).0) e)
          ]
        ];
      }

  -- after the next one is taken from the levels and followed
  module _ (seen level later : ℕ → Bool) (up : ℕ → ℕ)
      (v : IsLevelled m b c from to seen level later up)
      (s : IsSearch m b c from seen (either level later)) where
    rolled : (now next : ℕ → Bool)
        → IsRolled level later now next
        → IsLevelled m b c from to seen now next up
    rolled now next r = elim r [
      | inl e ↦ subst (λ (l : ℕ → Bool). IsLevelled m b c from to seen l next up) (sym e.0)
          (subst (λ (l : ℕ → Bool). IsLevelled m b c from to seen level l up) (sym e.1) v)
      | inr e ↦ subst (λ (l : ℕ → Bool). IsLevelled m b c from to seen l next up) (sym e.1)
          (IsLevelled-next seen level later up v s e.0 next e.2)
    ]

    rolled-now : (now next : ℕ → Bool)
        → IsRolled level later now next
        → (z : ℕ) → now z ≡ true
        → seen z ≡ true
    rolled-now now next r z h = s.waiting z (elim r [
      | inl e ↦ either_left level later z (subst (λ (l : ℕ → Bool). l z ≡ true) e.0 h)
      | inr e ↦ either_right level later z (subst (λ (l : ℕ → Bool). l z ≡ true) e.1 h)
    ])

    rolled-next : (now next : ℕ → Bool)
        → IsRolled level later now next
        → (z : ℕ) → next z ≡ true
        → seen z ≡ true
    rolled-next now next r z h = s.waiting z (elim r [
      | inl e ↦ either_right level later z (subst (λ (l : ℕ → Bool). l z ≡ true) e.1 h)
      | inr e ↦ absurd (both_ways _ (e.2 z) h)
    ])

    pub IsLevelled-follow : (seen2 level2 later1 later2 : ℕ → Bool) (up1 up2 : ℕ → ℕ) (f : ℕ)
        → IsNext level later level2 later1 f
        → seen f ≡ true
        → ((z : ℕ) → seen z ≡ true → to z ≡ false)
        → ((z : ℕ) → seen z ≡ true → from z ≡ false → seen (up z) ≡ true)
        → seen2 ≡ either (either seen (links m b f)) (links m c f)
        → later2 ≡ either (either later1 (outside (links m b f) seen))
        (outside (links m c f) (either seen (links m b f)))
        → ((z : ℕ) → links m b f z ≡ true → seen z ≡ false → up1 z ≡ f)
        → ((z : ℕ) → seen z ≡ true → up1 z ≡ up z)
        → ((z : ℕ) → links m c f z ≡ true → either seen (links m b f) z ≡ false → up2 z ≡ f)
        → ((z : ℕ) → either seen (links m b f) z ≡ true → up2 z ≡ up1 z)
        → IsLevelled m b c from to seen2 level2 later2 up2
    IsLevelled-follow seen2 level2 later1 later2 up1 up2 f t here missed above es el noted1 others1
        noted2 others2 = IsLevelled-step seen t.now t.next up
        (rolled t.now t.next t.rolled) f t.on here missed s.begun (rolled-now t.now t.next t.rolled)
        (rolled-next t.now t.next t.rolled) above seen2 level2 later2 up2
        (λ z h. subst (λ (k : ℕ → Bool). k z ≡ true) (sym es)
        (either_left _ _ z (either_left _ _ z h))) (λ z h n. elim (cases_Bool (links m b f z)) [
          | inl k ↦
              (either_left _ _ z k, others2 z (either_right seen (links m b f) z k) ∙ noted1 z k n)
          | inr k ↦
              let out : either seen (links m b f) z ≡ false =
              false_from_ne_true _ (λ w. elim (either_cases seen (links m b f) z w) [
                | inl i ↦ both_ways _ n i
                | inr i ↦ both_ways _ k i
              ]) in
              let on : links m c f z ≡ true = elim (either_cases (either seen (links m b f))
              (links m c f) z (subst (λ (j : ℕ → Bool). j z ≡ true) es h)) [
                | inl w ↦ absurd (both_ways _ out w)
                | inr w ↦ w
              ] in
              (either_right _ _ z on, noted2 z on out)
        ]) (λ z h. others2 z (either_left seen (links m b f) z h) ∙ others1 z h) t.less
        (λ z h. elim (either_cases _ _ z (subst (λ (j : ℕ → Bool). j z ≡ true) el h)) [
          | inl k ↦ elim (either_cases later1 (outside (links m b f) seen) z k) [
            | inl i ↦ inl (t.less_later z i)
            | inr i ↦ inr (outside_parts (links m b f) seen z i).1
          ]
          | inr k ↦ inr (false_from_ne_true _
              (λ w. both_ways _ (outside_parts (links m c f) (either seen (links m b f)) z k).1
              (either_left seen (links m b f) z w)))
        ])

  -- what is seen lies no deeper than a chain that leads there has links
  pub level-near : (seen level later : ℕ → Bool) (up : ℕ → ℕ)
      (v : IsLevelled m b c from to seen level later up) (y : ℕ)
      → seen y ≡ true
      → (start n : ℕ) → from start ≡ true
      → LeadsIn m b c start y n
      → v.depth y ≤ n
  level-near seen level later up v y h start n o l = elim (cases_lt v.now n) [
    | inl lt ↦ let d : v.depth y ≤ suc v.now = v.most y h in omega arith
    | inr ge ↦ (v.near start y n o l (omega arith)).1
  ]

  -- what is seen of `to` at first sight is the end of a shortest chain
  pub IsShortest-level : (seen level later : ℕ → Bool) (up : ℕ → ℕ)
      → IsLevelled m b c from to seen level later up
      → (x y : ℕ) → seen y ≡ true
      → to y ≡ true
      → IsNearest m b c from x y
      → IsShortest m b c from to x y
  IsShortest-level seen level later up v x y h t p = record {
    size = p.size;
    chain = p.chain;
    least = λ start stop n o e l.
        let w = v.reached y h in
        let q : p.size ≤ v.depth y = p.near w.0 (v.depth y) w.1 w.2 in
        let d : v.depth y ≤ n = v.first y start stop n h t o e l in
        omega arith;
  }
