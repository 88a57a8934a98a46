-- Spreading along members, and following the steps back.
use Rattle.std.proofs.Common.{◌≡◌, ◌≢◌, ℕ, ◌<◌, Bool, true, false, ◌⊎◌, List, [], ◌∷◌, length, refl}
use Rattle.std.proofs.Common.{inl, inr, sym, ap, ◌∙◌, subst, arith, suc}
use Rattle.std.proofs.lemmas.List.{get_or-set_other, get_or-set_same}
use Rattle.pg_exchange.proofs.Common.{set, IsBelow, IsWithin, cases_Bool, cases_eq, both_ways}
use Rattle.pg_exchange.proofs.Common.{false_from_ne_true, true_from_ne_false, plus, minus, either}
use Rattle.pg_exchange.proofs.Common.{plus_cases, plus_old, plus_new, minus_parts, either_right}
use Rattle.pg_exchange.proofs.Common.{IsWalk, IsJoined, joined_self, joined_on, joined_edge}
use Rattle.pg_exchange.proofs.Common.{joined_back, joined_more}
use Rattle.pg_graph.proofs.Crossing.{find_crossing}
use Rattle.pg_exchange.specs.declared.path.Step.{Step}
use Rattle.pg_exchange.specs.Path.{HasEnds, no_step, above_of, via_of, IsStep, IsSpread, SpreadsOn}
use Rattle.pg_exchange.specs.Path.{IsFound, IsPath, IsSide, IsTrail, IsTraced}
use Rattle.pg_exchange.proofs.TreeLemmas.{numbered, numbered_self, numbered_other}

-- ---- the step of one label is written

module _ (steps : List Step) (q : ℕ) (step : Step) where
  pub above_of-same : q < length steps → above_of (set steps q step) q ≡ step.above
  above_of-same l = ap (λ (s : Step). s.above) (get_or-set_same steps q step no_step l)

  pub via_of-same : q < length steps → via_of (set steps q step) q ≡ step.via
  via_of-same l = ap (λ (s : Step). s.via) (get_or-set_same steps q step no_step l)

  pub above_of-other : (c : ℕ) → c ≢ q → above_of (set steps q step) c ≡ above_of steps c
  above_of-other c d = ap (λ (s : Step). s.above) (get_or-set_other steps q c step no_step d)

  pub via_of-other : (c : ℕ) → c ≢ q → via_of (set steps q step) c ≡ via_of steps c
  via_of-other c d = ap (λ (s : Step). s.via) (get_or-set_other steps q c step no_step d)

module _ (a b : ℕ → ℕ) where
  -- seen from the other end
  pub HasEnds-turned : (k p q : ℕ) → HasEnds a b k p q → HasEnds a b k q p
  HasEnds-turned k p q h = elim h [ inl e ↦ inr (e.0, e.1) | inr e ↦ inl (e.0, e.1) ]

  -- q is reached from p by a member
  pub IsSpread-attach : (base : ℕ → Bool) (from : ℕ) (reached : ℕ → Bool)
      (above via above' via' : ℕ → ℕ) (k p q : ℕ)
      → base k ≡ true
      → HasEnds a b k p q
      → reached p ≡ true
      → reached q ≡ false
      → above' q ≡ p
      → via' q ≡ k
      → ((z : ℕ) → z ≢ q → above' z ≡ above z)
      → ((z : ℕ) → z ≢ q → via' z ≡ via z)
      → IsSpread a b base from reached above via
      → IsSpread a b base from (plus reached q) above' via'
  IsSpread-attach base from reached above via above' via' k p q member ends rp nq at_q by_q
      same_above same_via s = record {
        order = numbered s.order q s.last;
        last = suc s.last;
        begins = plus_old reached q from s.begins;
        before = λ c h. elim (plus_cases reached q c h) [
          | inl r ↦ let e = keeps c r in let l : s.order c < s.last = s.before c r in omega arith
          | inr e ↦
              let i : numbered s.order q s.last c ≡ s.last =
              subst (λ (z : ℕ). numbered s.order q s.last z ≡ s.last) e
              (numbered_self s.order q s.last) in
              omega arith
        ];
        step = λ c h d. elim (plus_cases reached q c h) [
          | inl r ↦
              let t = s.step c r d in
              let ne = other c r in
              let up = same_above c ne in
              let by = same_via c ne in
              record {
                member = subst (λ (z : ℕ). base z ≡ true) (sym by) t.member;
                ends = subst (λ (z : ℕ). HasEnds a b z c (above' c)) (sym by)
                    (subst (λ (z : ℕ). HasEnds a b (via c) c z) (sym up) t.ends);
                onward = plus_old reached q (above' c)
                    (subst (λ (z : ℕ). reached z ≡ true) (sym up) t.onward);
                lower =
                    let x : numbered s.order q s.last (above c) ≡ s.order (above c) =
                    keeps (above c) t.onward in
                    let y : numbered s.order q s.last c ≡ s.order c = keeps c r in
                    let w : numbered s.order q s.last (above' c)
                    ≡ numbered s.order q s.last (above c) = ap (numbered s.order q s.last) up in
                    let l : s.order (above c) < s.order c = t.lower in
                    omega arith;
              }
          | inr e ↦ subst (λ (z : ℕ). IsStep a b base (plus reached q) above' via'
              (numbered s.order q s.last) z) e (record {
                member = subst (λ (z : ℕ). base z ≡ true) (sym by_q) member;
                ends = subst (λ (z : ℕ). HasEnds a b z q (above' q)) (sym by_q)
                    (subst (λ (z : ℕ). HasEnds a b k q z) (sym at_q) (HasEnds-turned k p q ends));
                onward = plus_old reached q (above' q)
                    (subst (λ (z : ℕ). reached z ≡ true) (sym at_q) rp);
                lower =
                    let x : numbered s.order q s.last p ≡ s.order p = keeps p rp in
                    let y : numbered s.order q s.last q ≡ s.last = numbered_self s.order q s.last in
                    let w : numbered s.order q s.last (above' q) ≡ numbered s.order q s.last p =
                    ap (numbered s.order q s.last) at_q in
                    let l : s.order p < s.last = s.before p rp in
                    omega arith;
              })
        ];
      } where
        other : (c : ℕ) → reached c ≡ true → c ≢ q
        other c r e = both_ways _ nq (subst (λ (z : ℕ). reached z ≡ true) e r)

        keeps : (c : ℕ) → reached c ≡ true → numbered s.order q s.last c ≡ s.order c
        keeps c r = numbered_other s.order q s.last c (λ e. other c r (sym e))

  pub IsSpread-begin : (base : ℕ → Bool) (from : ℕ) (reached : ℕ → Bool) (above via : ℕ → ℕ)
      → ((z : ℕ) → (reached z ≡ true) → z ≡ from)
      → reached from ≡ true
      → IsSpread a b base from reached above via
  IsSpread-begin base from reached above via only here = record {
    order = λ _. 0;
    last = 1;
    begins = here;
    before = λ c h. omega arith;
    step = λ c h d. absurd (d (only c h));
  }

  -- a search goes on by a step to q
  pub SpreadsOn-attach : (members : ℕ → Bool) (n : ℕ) (reached : ℕ → Bool) (steps : List Step)
      (q : ℕ) (step : Step)
      → members step.via ≡ true
      → HasEnds a b step.via step.above q
      → reached step.above ≡ true
      → reached q ≡ false
      → q < n
      → length steps ≡ n
      → IsBelow reached n
      → SpreadsOn a b members n reached steps (plus reached q) (set steps q step)
  SpreadsOn-attach members n reached steps q step member ends begun fresh l size low =
      let room : q < length steps = omega arith in
      record {
        spread = λ base from w s. IsSpread-attach base from reached (above_of steps) (via_of steps)
            (above_of (set steps q step)) (via_of (set steps q step)) step.via step.above q
            (w step.via member) ends begun fresh (above_of-same steps q step room)
            (via_of-same steps q step room) (above_of-other steps q step)
            (via_of-other steps q step) s;
        more = λ z h. plus_old reached q z h;
        small = λ z h. elim (plus_cases reached q z h) [
          | inl r ↦ low z r
          | inr e ↦ omega arith
        ];
      }

  -- a search rests
  pub SpreadsOn-rest : (members : ℕ → Bool) (n : ℕ) (reached : ℕ → Bool) (steps : List Step)
      → IsBelow reached n
      → SpreadsOn a b members n reached steps reached steps
  SpreadsOn-rest members n reached steps low =
      record { spread = λ base from w s. s; more = λ z h. h; small = low }

  -- a search goes on twice, then by some of the members
  pub SpreadsOn-twice : (members members' : ℕ → Bool) (n : ℕ) (reached : ℕ → Bool)
      (steps : List Step) (reached' : ℕ → Bool) (steps' : List Step) (reached'' : ℕ → Bool)
      (steps'' : List Step)
      → IsWithin members' members
      → SpreadsOn a b members n reached steps reached' steps'
      → SpreadsOn a b members' n reached' steps' reached'' steps''
      → SpreadsOn a b members n reached steps reached'' steps''
  SpreadsOn-twice members members' n reached steps reached' steps' reached'' steps'' fewer i e =
      record {
        spread = λ base from w s.
            e.spread base from (λ k h. w k (fewer k h)) (i.spread base from w s);
        more = λ z h. e.more z (i.more z h);
        small = e.small;
      }

  -- where the members join from and to, some member leaves what is reached, while to isn't
  pub find_leaving : (base reached : ℕ → Bool) (from to : ℕ)
      → IsJoined a b base from to
      → reached from ≡ true
      → reached to ≡ false
      → (k : ℕ) × (base k ≡ true)
      × (((reached (a k) ≡ true) × (reached (b k) ≡ false))
      ⊎ ((reached (a k) ≡ false) × (reached (b k) ≡ true)))
  find_leaving base reached from to j rf rt =
      let w =
      find_crossing a b (λ _. false) base reached from to (λ k h. absurd (both_ways _ refl h))
      (joined_more a b base (either (λ _. false) base) from to
      (λ z h. either_right (λ _. false) base z h) j) rf rt in (
        w.0,
        w.1,
        elim (cases_Bool (reached (a w.0))) [
          | inl t ↦ inl (t, false_from_ne_true _ (λ s. w.2 (t ∙ sym s)))
          | inr o ↦ inr (o, true_from_ne_false _ (λ s. w.2 (o ∙ sym s)))
        ],
      )

  -- ---- upwards

  pub IsTrail-begin : (base : ℕ → Bool) (order above via : ℕ → ℕ) (begin : ℕ) (found : ℕ → Bool)
      → ((z : ℕ) → found z ≡ false)
      → IsTrail a b base order above via begin begin found (λ _. false)
  IsTrail-begin base order above via begin found none = record {
    later = λ c h. absurd (both_ways _ refl h);
    ends = λ c h. absurd (both_ways _ refl h);
    next = λ c h. absurd (both_ways _ refl h);
    begins = inr refl;
    only = λ k h. absurd (both_ways _ (none k) h);
    within = λ k h. absurd (both_ways _ (none k) h);
    joined = joined_self a b found begin;
    sides = λ k h. absurd (both_ways _ (none k) h);
  }

  module _ (base : ℕ → Bool) (order above via : ℕ → ℕ) (begin here : ℕ) (found gone : ℕ → Bool)
      (t : IsTrail a b base order above via begin here found gone) (reached : ℕ → Bool)
      (step : IsStep a b base reached above via order here) where
    not_gone : gone here ≡ false
    not_gone =
        false_from_ne_true _ (λ g. let l : order here < order here = t.later here g in omega arith)

    above_not_gone : gone (above here) ≡ false
    above_not_gone = false_from_ne_true _ (λ g.
        let l : order here < order (above here) = t.later (above here) g in
        let m : order (above here) < order here = step.lower in omega arith)

    -- the next member is new
    pub fresh_member : found (via here) ≡ false
    fresh_member = false_from_ne_true _ (λ h.
        let w = t.only (via here) h in
        let c : ℕ = w.0 in
        let mine = step.ends in
        let theirs : HasEnds a b (via here) c (above c) =
        subst (λ (z : ℕ). HasEnds a b z c (above c)) w.2 (t.ends c w.1) in
        let at_here : c ≢ here =
        λ e. both_ways _ not_gone (subst (λ (z : ℕ). gone z ≡ true) e w.1) in
        let at_above : c ≢ above here =
        λ e. both_ways _ above_not_gone (subst (λ (z : ℕ). gone z ≡ true) e w.1) in
        elim theirs [
          | inl p ↦ elim mine [ inl q ↦ at_here (sym p.0 ∙ q.0) | inr q ↦ at_above (sym p.0 ∙ q.0) ]
          | inr p ↦ elim mine [ inl q ↦ at_above (sym p.1 ∙ q.1) | inr q ↦ at_here (sym p.1 ∙ q.1) ]
        ])

    -- one step further up
    pub IsTrail-step : IsTrail a b base order above via begin (above here) (plus found (via here))
        (plus gone here)
    IsTrail-step = record {
      later = λ c h. elim (plus_cases gone here c h) [
        | inl g ↦
            let l : order here < order c = t.later c g in
            let m : order (above here) < order here = step.lower in
            omega arith
        | inr e ↦ subst (λ (z : ℕ). order (above here) < order z) e step.lower
      ];
      ends = λ c h. elim (plus_cases gone here c h) [
        | inl g ↦ t.ends c g
        | inr e ↦ subst (λ (z : ℕ). HasEnds a b (via z) z (above z)) e step.ends
      ];
      next = λ c h. elim (plus_cases gone here c h) [
        | inl g ↦ elim (t.next c g) [
          | inl i ↦ inl (plus_old gone here (above c) i)
          | inr e ↦ inl (plus_new gone here (above c) (sym e))
        ]
        | inr e ↦ inr (ap above (sym e))
      ];
      begins = elim t.begins [
        | inl g ↦ inl (plus_old gone here begin g)
        | inr e ↦ inl (plus_new gone here begin (sym e))
      ];
      only = λ k h. elim (plus_cases found (via here) k h) [
        | inl g ↦ let w = t.only k g in (w.0, plus_old gone here w.0 w.1, w.2)
        | inr e ↦ (here, plus_new gone here here refl, e)
      ];
      within = λ k h. elim (plus_cases found (via here) k h) [
        | inl g ↦ t.within k g
        | inr e ↦ subst (λ (z : ℕ). base z ≡ true) e step.member
      ];
      joined = joined_on a b (plus found (via here)) begin here (above here)
          (joined_more a b found (plus found (via here)) begin here
          (λ z h. plus_old found (via here) z h) t.joined) along;
      sides = λ y h. elim (cases_eq (via here) y) [
        | inl e ↦ subst (λ (z : ℕ). IsSide a b (plus found (via here)) (plus gone here) begin z) e
            new_side
        | inr d ↦ elim (plus_cases found (via here) y h) [
          | inl g ↦ old_side y (t.sides y g)
          | inr e ↦ absurd (d e)
        ]
      ];
    } where
      along : IsJoined a b (plus found (via here)) here (above here)
      along =
          let set = plus found (via here) in
          let on : set (via here) ≡ true = plus_new found (via here) (via here) refl in
          let edge = joined_edge a b set (via here) on in
          elim step.ends [
            | inl p ↦ subst (λ (z : ℕ). IsJoined a b set here z) p.1
                (subst (λ (z : ℕ). IsJoined a b set z (b (via here))) p.0 edge)
            | inr p ↦ subst (λ (z : ℕ). IsJoined a b set z (above here)) p.1
                (joined_back a b set (above here) (b (via here))
                (subst (λ (z : ℕ). IsJoined a b set z (b (via here))) p.0 edge))
          ]

      -- a test that is false at both ends of the next member
      old_side : (y : ℕ)
          → IsSide a b found gone begin y
          → IsSide a b (plus found (via here)) (plus gone here) begin y
      old_side y s = record {
        side = s.side;
        begins = s.begins;
        only = λ z h. plus_old gone here z (s.only z h);
        closed = λ k h d. elim (plus_cases found (via here) k h) [
          | inl g ↦ s.closed k g d
          | inr e ↦
              let off : s.side here ≡ false =
              false_from_ne_true _ (λ h. both_ways _ not_gone (s.only here h)) in
              let off2 : s.side (above here) ≡ false =
              false_from_ne_true _ (λ h. both_ways _ above_not_gone (s.only (above here) h)) in
              subst (λ (z : ℕ). s.side (a z) ≡ s.side (b z)) e (elim step.ends [
                | inl p ↦ ap s.side p.0 ∙ (off ∙ sym (ap s.side p.1 ∙ off2))
                | inr p ↦ ap s.side p.0 ∙ (off2 ∙ sym (ap s.side p.1 ∙ off))
              ])
        ];
      }

      new_side : IsSide a b (plus found (via here)) (plus gone here) begin (via here)
      new_side = record {
        side = plus gone here;
        begins = elim t.begins [
          | inl g ↦ plus_old gone here begin g
          | inr e ↦ plus_new gone here begin (sym e)
        ];
        only = λ z h. h;
        closed = λ k h d. elim (plus_cases found (via here) k h) [
          | inr e ↦ absurd (d e)
          | inl g ↦
              let w = t.only k g in
              let c : ℕ = w.0 in
              let on : plus gone here c ≡ true = plus_old gone here c w.1 in
              let on2 : plus gone here (above c) ≡ true = elim (t.next c w.1) [
                | inl i ↦ plus_old gone here (above c) i
                | inr e ↦ plus_new gone here (above c) (sym e)
              ] in
              let ends : HasEnds a b k c (above c) =
              subst (λ (z : ℕ). HasEnds a b z c (above c)) w.2 (t.ends c w.1) in
              elim ends [
                | inl p ↦ ap (plus gone here) p.0 ∙ (on ∙ sym (ap (plus gone here) p.1 ∙ on2))
                | inr p ↦ ap (plus gone here) p.0 ∙ (on2 ∙ sym (ap (plus gone here) p.1 ∙ on))
              ]
        ];
      }

  -- ---- back to the beginning of a search

  pub IsTraced-begin : (base : ℕ → Bool) (from to n : ℕ) (found : ℕ → Bool) (above via : ℕ → ℕ)
      → ((z : ℕ) → found z ≡ false)
      → IsFound a b base from to n above via
      → IsTraced a b base from to n to found above via
  IsTraced-begin base from to n found above via none f = record {
    reached = f.reached;
    small = f.small;
    spread = f.spread;
    gone = λ _. false;
    now = f.ends;
    trail = IsTrail-begin base f.spread.order above via to found none;
  }

  module _ (base : ℕ → Bool) (from to n here : ℕ) (found : ℕ → Bool) (above via : ℕ → ℕ)
      (t : IsTraced a b base from to n here found above via) (away : here ≢ from) where
    pub step_here : IsStep a b base t.reached above via t.spread.order here
    step_here = t.spread.step here t.now away

    pub fresh_traced : found (via here) ≡ false
    fresh_traced =
        fresh_member base t.spread.order above via to here found t.gone t.trail t.reached step_here

    pub IsTraced-step : IsTraced a b base from to n (above here) (plus found (via here)) above via
    IsTraced-step = record {
      reached = t.reached;
      small = t.small;
      spread = t.spread;
      gone = plus t.gone here;
      now = step_here.onward;
      trail = IsTrail-step base t.spread.order above via to here found t.gone t.trail t.reached
          step_here;
    }

  -- a walk over edges whose ends are on one side stays there
  pub stays : (set : ℕ → Bool) (side : ℕ → Bool)
      → ((k : ℕ) → set k ≡ true → side (a k) ≡ side (b k))
      → (ks : List ℕ) (u v : ℕ) → IsWalk a b set ks u v
      → side u ≡ side v
  stays set side closed [] u v h = ap side h
  stays set side closed (k ∷ ks) u v h = elim h.1 [
    | inl p ↦ ap side (sym p.0) ∙ (closed k h.0 ∙ stays set side closed ks (b k) v p.1)
    | inr p ↦ ap side (sym p.0) ∙ (sym (closed k h.0) ∙ stays set side closed ks (a k) v p.1)
  ]

  -- back at the beginning the members found are a path
  pub IsPath-traced : (base : ℕ → Bool) (from to n here : ℕ) (found : ℕ → Bool) (above via : ℕ → ℕ)
      → here ≡ from
      → IsTraced a b base from to n here found above via
      → IsPath a b base from to found
  IsPath-traced base from to n here found above via back t = record {
    within = t.trail.within;
    joined = joined_back a b found to from
        (subst (λ (z : ℕ). IsJoined a b found to z) back t.trail.joined);
    apart = λ y h j.
        let s = t.trail.sides y h in
        let same : s.side from ≡ s.side to = stays (minus found y) s.side
        (λ k m. let p = minus_parts found y k m in s.closed k p.0 p.1) j.edges from to j.walk in
        let gone : t.gone here ≡ true =
        subst (λ (z : ℕ). t.gone z ≡ true) (sym back) (s.only from (same ∙ s.begins)) in
        let l : t.spread.order here < t.spread.order here = t.trail.later here gone in
        omega arith;
  }
