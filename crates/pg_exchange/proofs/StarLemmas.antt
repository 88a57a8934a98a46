-- Stars of labels, an edge at a time; and rounds of a search through them.
use Rattle.std.proofs.Common.{◌≡◌, ◌⊎◌, ◌<◌, ◌≤◌, ◌↔◌, ◌+◌, ℕ, Bool, true, false, List, length}
use Rattle.std.proofs.Common.{replicate, get_or, inl, inr, refl, arith, sym, ap, ◌∙◌, subst}
use Rattle.std.proofs.lemmas.List.{get_or-set_other, get_or-set_same, get_or-replicate}
use Rattle.std.proofs.lemmas.List.{length-replicate}
use Rattle.pg_exchange.proofs.Common.{set, FinSet, nat_cmp, contains, contains-empty, empty, insert}
use Rattle.pg_exchange.proofs.Common.{plus, below, either, outside, count, IsWithin, cases_eq}
use Rattle.pg_exchange.proofs.Common.{cases_lt, cases_Bool, both_ways, false_from_ne_true, eq-eqb}
use Rattle.pg_exchange.proofs.Common.{eqb-true, or_cases, or_left, or_right}
use Rattle.pg_exchange.proofs.Common.{true_from_ne_false, plus_cases, plus_old, plus_new}
use Rattle.pg_exchange.proofs.Common.{either_cases, either_left, either_right, outside_parts}
use Rattle.pg_exchange.proofs.Common.{outside_from, below_parts, below_from, count_less, Graph}
use Rattle.pg_exchange.specs.Path.{first_label, second_label, IsReachedBoth, IsSwept}
use Rattle.pg_exchange.specs.Stars.{star_of, has_end, AreStars, IsGathered, IsRound}
use Rattle.pg_exchange.proofs.Tests.{with_point}

-- ---- stars

module _ (g : Graph) (names : List ℕ) (p k : ℕ) where
  pub has_end-cases : has_end g names p k ≡ true
      → (first_label g names k ≡ p) ⊎ (second_label g names k ≡ p)
  unfolding has_end
  has_end-cases h = elim (or_cases _ _ h) [
    | inl q ↦ inl (eqb-true (first_label g names k) p q)
    | inr q ↦ inr (eqb-true (second_label g names k) p q)
  ]

  pub has_end-first : first_label g names k ≡ p → has_end g names p k ≡ true
  unfolding has_end
  has_end-first e = or_left _ _ (eq-eqb (first_label g names k) p e)

  pub has_end-second : second_label g names k ≡ p → has_end g names p k ≡ true
  unfolding has_end
  has_end-second e = or_right _ _ (eq-eqb (second_label g names k) p e)

-- the star of one label gets an edge
pub star-put : (stars : List (FinSet nat_cmp)) (p k : ℕ) (star : FinSet nat_cmp)
    → p < length stars
    → star ≡ insert (get_or stars p empty) k
    → (c z : ℕ) → (star_of (set stars p star) c z ≡ true)
    ↔ ((star_of stars c z ≡ true) ⊎ ((c ≡ p) × (z ≡ k)))
star-put stars p k star l is c z =
    elim (cases_eq c p) [
      | inl e ↦ subst
          (λ (q : ℕ). (star_of (set stars p star) q z ≡ true)
          ↔ ((star_of stars q z ≡ true) ⊎ ((q ≡ p) × (z ≡ k)))) (sym e) (
            λ h. elim (plus_cases (star_of stars p) k z (subst (λ (s : ℕ → Bool). s z ≡ true) now
                h)) [
                  | inl o ↦ inl o
                  | inr i ↦ inr (refl, sym i)
                ],
            λ h. subst (λ (s : ℕ → Bool). s z ≡ true) (sym now) (elim h [
              | inl o ↦ plus_old (star_of stars p) k z o
              | inr i ↦ plus_new (star_of stars p) k z (sym i.1)
            ]),
          )
      | inr d ↦
          let same : star_of (set stars p star) c z ≡ star_of stars c z =
          ap (λ (s : FinSet nat_cmp). contains s z) (get_or-set_other stars p c star empty d) in (
            λ h. inl (sym same ∙ h),
            λ h. elim h [ inl o ↦ same ∙ o | inr i ↦ absurd (d i.0) ],
          )
    ]
  where
    now : star_of (set stars p star) p ≡ plus (star_of stars p) k
    now = with_point (get_or stars p empty) (get_or (set stars p star) p empty) k
        (get_or-set_same stars p star empty l ∙ is)

pub AreStars-begin : (g : Graph) (names : List ℕ) (stars : List (FinSet nat_cmp))
    → stars ≡ replicate g.vertices empty
    → AreStars g names 0 stars
AreStars-begin g names stars is = record {
  size = ap (λ (s : List (FinSet nat_cmp)). length s) is ∙ length-replicate g.vertices empty;
  star = λ p k l. (
    λ h. absurd (both_ways _ (none p k l) h),
    λ w. absurd (let low : k < 0 = w.0 in omega arith),
  );
} where
  none : (p k : ℕ) → p < g.vertices → star_of stars p k ≡ false
  none p k l = ap (λ (s : List (FinSet nat_cmp)). star_of s p k) is
      ∙ (ap (λ (s : FinSet nat_cmp). contains s k) (get_or-replicate g.vertices p empty empty l)
      ∙ contains-empty nat_cmp k)

-- an edge comes into the stars of the labels of its ends
pub AreStars-next : (g : Graph) (names : List ℕ) (k n first second : ℕ)
    (stars stars1 stars2 : List (FinSet nat_cmp))
    → n ≡ k + 1
    → first_label g names k ≡ first
    → second_label g names k ≡ second
    → length stars2 ≡ length stars
    → ((c z : ℕ) → (star_of stars1 c z ≡ true)
    ↔ ((star_of stars c z ≡ true) ⊎ ((c ≡ first) × (z ≡ k))))
    → ((c z : ℕ) → (star_of stars2 c z ≡ true)
    ↔ ((star_of stars1 c z ≡ true) ⊎ ((c ≡ second) × (z ≡ k))))
    → AreStars g names k stars
    → AreStars g names n stars2
AreStars-next g names k n first second stars stars1 stars2 next a b size one two i = record {
  size = size ∙ i.size;
  star = λ p z l. (
    λ h. elim ((two p z).0 h) [
      | inl t ↦ elim ((one p z).0 t) [
        | inl o ↦
            let w = (i.star p z l).0 o in
            let low : z < k = w.0 in
            (omega arith, w.1)
        | inr e ↦
            let at : z ≡ k = e.1 in (
              omega arith,
              subst (λ (y : ℕ). has_end g names p y ≡ true) (sym e.1)
                  (has_end-first g names p k (a ∙ sym e.0)),
            )
      ]
      | inr e ↦
          let at : z ≡ k = e.1 in (
            omega arith,
            subst (λ (y : ℕ). has_end g names p y ≡ true) (sym e.1)
                (has_end-second g names p k (b ∙ sym e.0)),
          )
    ],
    λ w. elim (cases_eq z k) [
      | inl e ↦ elim (has_end-cases g names p k
          (subst (λ (y : ℕ). has_end g names p y ≡ true) e w.1)) [
            | inl q ↦ (two p z).1 (inl ((one p z).1 (inr (sym q ∙ a, e))))
            | inr q ↦ (two p z).1 (inr (sym q ∙ b, e))
          ]
      | inr d ↦
          let low : z < n = w.0 in
          (two p z).1 (inl ((one p z).1 (inl ((i.star p z l).1 (omega arith, w.1)))))
    ],
  );
}

-- ---- gathering

module _ (stars : List (FinSet nat_cmp)) (labels : ℕ → Bool) where
  pub IsGathered-begin : (set : ℕ → Bool) (n : ℕ)
      → n ≡ 0
      → ((z : ℕ) → set z ≡ false)
      → IsGathered stars (below labels n) set
  IsGathered-begin set n e none = record {
    all = λ p k h s. let low : p < n = (below_parts labels n p h).1 in absurd (omega arith);
    only = λ k h. absurd (both_ways _ (none k) h);
  }

  -- the next label's star comes in
  pub IsGathered-next : (set now : ℕ → Bool) (next p : ℕ)
      → labels p ≡ true
      → next ≤ p
      → ((q : ℕ) → next ≤ q → labels q ≡ true → p ≤ q)
      → now ≡ either set (star_of stars p)
      → IsGathered stars (below labels next) set
      → IsGathered stars (below labels (p + 1)) now
  IsGathered-next set now next p on le least is i = record {
    all = λ q k h s. subst (λ (t : ℕ → Bool). t k ≡ true) (sym is)
        (let w : (labels q ≡ true) × (q < p + 1) = below_parts labels (p + 1) q h in
        elim (cases_eq q p) [
          | inl e ↦ either_right set (star_of stars p) k
              (subst (λ (y : ℕ). star_of stars y k ≡ true) e s)
          | inr d ↦ either_left set (star_of stars p) k (i.all q k
              (below_from labels next q w.0 (elim (cases_lt q next) [
                | inl l ↦ l
                | inr ge ↦
                    let low : q < p + 1 = w.1 in
                    let high : p ≤ q = least q ge w.0 in
                    absurd (d (omega arith))
              ])) s)
        ]);
    only = λ k h. elim (either_cases set (star_of stars p) k
        (subst (λ (t : ℕ → Bool). t k ≡ true) is h)) [
          | inl o ↦
              let w = i.only k o in
              let v : (labels w.0 ≡ true) × (w.0 < next) = below_parts labels next w.0 w.1 in
              let low : w.0 < next = v.1 in
              (w.0, below_from labels (p + 1) w.0 v.0 (omega arith), w.2)
          | inr s ↦ (p, below_from labels (p + 1) p on (omega arith), s)
        ];
  }

  pub IsGathered-end : (set : ℕ → Bool) (next : ℕ)
      → ((q : ℕ) → next ≤ q → labels q ≡ false)
      → IsGathered stars (below labels next) set
      → IsGathered stars labels set
  IsGathered-end set next none i = record {
    all = λ p k h s. i.all p k (below_from labels next p h (elim (cases_lt p next) [
      | inl l ↦ l
      | inr ge ↦ absurd (both_ways _ (none p ge) h)
    ])) s;
    only = λ k h. let w = i.only k h in (w.0, (below_parts labels next w.0 w.1).0, w.2);
  }

-- ---- rounds

module _ (a b : ℕ → ℕ) (base left reached fresh near near' reached' left' fresh' : ℕ → Bool) where
  -- the members at fresh labels were swept
  pub IsRound-next : ((k : ℕ) → left k ≡ true
      → (fresh (a k) ≡ true) ⊎ (fresh (b k) ≡ true)
      → near k ≡ true)
      → ((k : ℕ) → near k ≡ true → (fresh (a k) ≡ true) ⊎ (fresh (b k) ≡ true))
      → left' ≡ outside left near
      → fresh' ≡ outside reached' reached
      → IsWithin reached reached'
      → IsSwept a b near near' reached reached'
      → IsRound a b base left reached fresh
      → IsRound a b base left' reached' fresh'
  IsRound-next whole only left_is fresh_is more swept i = record {
    last = λ z h. (outside_parts reached' reached z
        (subst (λ (s : ℕ → Bool). s z ≡ true) fresh_is h)).0;
    fewer = λ z h. i.fewer z (outside_parts left near z
        (subst (λ (s : ℕ → Bool). s z ≡ true) left_is h)).0;
    done = λ k on out. elim (cases_Bool (left k)) [
      | inr gone ↦ lifted k (i.done k on gone)
      | inl l ↦ elim (cases_Bool (near k)) [
        | inl n ↦ crossed k n
        | inr o ↦ absurd (both_ways _ out
            (subst (λ (s : ℕ → Bool). s k ≡ true) (sym left_is) (outside_from left near k l o)))
      ]
    ];
    settled = λ k on some. elim some [
      | inl h ↦ elim (cases_Bool (fresh (a k))) [
        | inl f ↦ tried k on (inl f)
        | inr o ↦ lifted k (i.settled k on
            (inl (outside_from reached fresh (a k) (earlier (a k) h) o)))
      ]
      | inr h ↦ elim (cases_Bool (fresh (b k))) [
        | inl f ↦ tried k on (inr f)
        | inr o ↦ lifted k (i.settled k on
            (inr (outside_from reached fresh (b k) (earlier (b k) h) o)))
      ]
    ];
  } where
    lifted : (k : ℕ) → IsReachedBoth reached (a k) (b k) → IsReachedBoth reached' (a k) (b k)
    lifted k both = (more (a k) both.0, more (b k) both.1)

    crossed : (k : ℕ) → near k ≡ true → IsReachedBoth reached' (a k) (b k)
    crossed k n = swept.across k n (elim (only k n) [
      | inl f ↦ inl (i.last (a k) f)
      | inr f ↦ inr (i.last (b k) f)
    ])

    tried : (k : ℕ)
        → base k ≡ true
        → (fresh (a k) ≡ true) ⊎ (fresh (b k) ≡ true)
        → IsReachedBoth reached' (a k) (b k)
    tried k on some = elim (cases_Bool (left k)) [
      | inl l ↦ crossed k (whole k l some)
      | inr gone ↦ lifted k (i.done k on gone)
    ]

    earlier : (z : ℕ) → outside reached' fresh' z ≡ true → reached z ≡ true
    earlier z h =
        let p : (reached' z ≡ true) × (fresh' z ≡ false) = outside_parts reached' fresh' z h in
        true_from_ne_false _ (λ o. both_ways _ p.1
        (subst (λ (s : ℕ → Bool). s z ≡ true) (sym fresh_is)
        (outside_from reached' reached z p.0 o)))

  -- fewer labels are fresh or unreached
  pub more_settled : (p n : ℕ)
      → fresh p ≡ true
      → IsWithin fresh reached
      → IsWithin reached reached'
      → fresh' ≡ outside reached' reached
      → p < n
      → count (outside reached fresh) n < count (outside reached' fresh') n
  more_settled p n on last more fresh_is l =
      count_less (outside reached fresh) (outside reached' fresh') p n
      (λ z h. let r = (outside_parts reached fresh z h).0 in kept z r)
      (false_from_ne_true _ (λ h. both_ways _ (outside_parts reached fresh p h).1 on))
      (kept p (last p on)) l
    where
      kept : (z : ℕ) → reached z ≡ true → outside reached' fresh' z ≡ true
      kept z r = outside_from reached' fresh' z (more z r) (false_from_ne_true _ (λ f.
          both_ways _ (outside_parts reached' reached z
          (subst (λ (s : ℕ → Bool). s z ≡ true) fresh_is f)).1 r))
