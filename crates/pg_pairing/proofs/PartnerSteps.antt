-- The steps of the walks over pairs and over the points of a line.
use Rattle.std.proofs.Common.{◌≡◌, ◌≢◌, ◌∙◌, ℕ, ◌+◌, ◌-◌, ◌<◌, ◌≤◌, Bool, true, false, ◌||◌, List}
use Rattle.std.proofs.Common.{length, get_or, set, eqb, eqb-true, eq-eqb, refl, sym, ap, subst, inl}
use Rattle.std.proofs.Common.{inr, arith}
use Rattle.pg_pairing.proofs.Common.{cases_eq, or_cases, false≢true, length-set, get_or-set_same}
use Rattle.pg_pairing.proofs.Common.{get_or-set_other, get_or_default, Contains-get_or, All-weaker}
use Rattle.pg_pairing.proofs.Common.{All, AllPairs, Any, Contains, FinSet, contains, insert}
use Rattle.pg_pairing.proofs.Common.{nat_cmp, in_insert, MAX_MEMBERS, Pair, Game, is_touched}
use Rattle.pg_pairing.proofs.Common.{HoldsPair, IsInGame, IsSafe, SharesNone, point_count-le}
use Rattle.pg_pairing.proofs.Common.{list_any-none, list_any-one}
use Rattle.pg_pairing.specs.Partners.{AreSmall, ArePartners, IsPairOf}
use Rattle.pg_pairing.specs.declared.partners.TheConstants.{NO_POINT}

or_first : (a b : Bool) → a ≡ true → (a || b) ≡ true
or_first a b e = rw e refl

or_second : (a b : Bool) → b ≡ true → (a || b) ≡ true
or_second true b e = refl
or_second false b e = e

-- ---- the points of a line

-- one more than the one is one more than the other
same-next : (v w : ℕ) → eqb (v + 1) (w + 1) ≡ true → v ≡ w
same-next v w h = let e = eqb-true (v + 1) (w + 1) h in omega (arith, e)

-- the points before a place have been seen, each kept as one more; none of them is among the own,
-- and no pair is among them
pub record HasPassed (own : FinSet nat_cmp) (line partners : List ℕ) (i : ℕ)
    (seen : FinSet nat_cmp) : Type 0 where
  pub untouched : (j : ℕ) → j < i → contains own (get_or line j 0) ≡ false
  pub first : contains seen 0 ≡ true → ⊥
  pub within : (q : ℕ) → contains seen (q + 1) ≡ true → Contains line q
  pub met : (j : ℕ) → j < i → contains seen (get_or line j 0 + 1) ≡ true
  pub apart : (pairs : List Pair)
      → ArePartners partners pairs
      → (s : Pair) → Contains pairs s
      → contains seen (s.a + 1) ≡ true
      → contains seen (s.b + 1) ≡ true
      → ⊥

pub passed-none : (own : FinSet nat_cmp) (line partners : List ℕ) (seen : FinSet nat_cmp)
    → ((q : ℕ) → contains seen q ≡ false)
    → HasPassed own line partners 0 seen
passed-none own line partners seen none = record {
  untouched = λ j lt. absurd (omega (arith, lt));
  first = λ on. false≢true (sym (none 0) ∙ on);
  within = λ q on. absurd (false≢true (sym (none (q + 1)) ∙ on));
  met = λ j lt. absurd (omega (arith, lt));
  apart = λ pairs are s c on_a on_b. false≢true (sym (none (s.a + 1)) ∙ on_a);
}

pub passed-more : (own : FinSet nat_cmp) (line partners : List ℕ) (i : ℕ)
    (seen next : FinSet nat_cmp)
    → i < length line
    → contains own (get_or line i 0) ≡ false
    → contains seen (get_or partners (get_or line i 0) 0) ≡ false
    → next ≡ insert seen (get_or line i 0 + 1)
    → HasPassed own line partners i seen
    → HasPassed own line partners (i + 1) next
passed-more own line partners i seen next lt off fresh next_is h =
    let x = get_or line i 0 in
    record {
      untouched = λ j below. elim (cases_eq j i) [
        | inl e ↦ ap (λ n. contains own (get_or line n 0)) e ∙ off
        | inr ne ↦ h.untouched j (omega (arith, below, ne))
      ];
      first = λ on. elim (or_cases (eqb 0 (x + 1)) (contains seen 0) (sym (in_next 0) ∙ on)) [
        | inl e ↦ let none = eqb-true 0 (x + 1) e in omega (arith, none)
        | inr old ↦ h.first old
      ];
      within = λ q on. elim (or_cases (eqb (q + 1) (x + 1)) (contains seen (q + 1))
          (sym (in_next (q + 1)) ∙ on)) [
            | inl e ↦
                subst (λ n. Contains line n) (sym (same-next q x e)) (Contains-get_or line i 0 lt)
            | inr old ↦ h.within q old
          ];
      met = λ j below. in_next (get_or line j 0 + 1) ∙ elim (cases_eq j i) [
        | inl e ↦ or_first (eqb (get_or line j 0 + 1) (x + 1)) (contains seen (get_or line j 0 + 1))
            (eq-eqb (get_or line j 0 + 1) (x + 1) (ap (λ n. get_or line n 0 + 1) e))
        | inr ne ↦ or_second (eqb (get_or line j 0 + 1) (x + 1))
            (contains seen (get_or line j 0 + 1)) (h.met j (omega (arith, below, ne)))
      ];
      apart = λ pairs are s c on_a on_b. elim (or_cases (eqb (s.a + 1) (x + 1))
          (contains seen (s.a + 1)) (sym (in_next (s.a + 1)) ∙ on_a)) [
            | inl ea ↦ elim (or_cases (eqb (s.b + 1) (x + 1)) (contains seen (s.b + 1))
                (sym (in_next (s.b + 1)) ∙ on_b)) [
                  | inl eb ↦ are.different s c (same-next s.a x ea ∙ sym (same-next s.b x eb))
                  | inr sb ↦ unseen s.a (s.b + 1) (same-next s.a x ea) (are.paired s c).0 sb
                ]
            | inr sa ↦ elim (or_cases (eqb (s.b + 1) (x + 1)) (contains seen (s.b + 1))
                (sym (in_next (s.b + 1)) ∙ on_b)) [
                  | inl eb ↦ unseen s.b (s.a + 1) (same-next s.b x eb) (are.paired s c).1 sa
                  | inr sb ↦ h.apart pairs are s c sa sb
                ]
          ];
    }
  where
    in_next : (q : ℕ) → contains next q ≡ (eqb q (get_or line i 0 + 1) || contains seen q)
    in_next q = ap (λ s. contains s q) next_is ∙ in_insert seen (get_or line i 0 + 1) q

    unseen : (v w : ℕ) → v ≡ get_or line i 0 → get_or partners v 0 ≡ w → contains seen w ≡ true → ⊥
    unseen v w is partner on =
        let there : get_or partners (get_or line i 0) 0 ≡ w =
        ap (λ n. get_or partners n 0) (sym is) ∙ partner in
        false≢true (sym fresh ∙ ap (λ n. contains seen n) there ∙ on)

-- a point of the line that is among the own
pub touched-at : (own : FinSet nat_cmp) (line : List ℕ) (i : ℕ)
    → i < length line
    → contains own (get_or line i 0) ≡ true
    → is_touched own line ≡ true
touched-at own line i lt on =
    list_any-one (contains own) line (get_or line i 0) (Contains-get_or line i 0 lt) on

-- a point whose partner has been seen
pub holds-at : (own : FinSet nat_cmp) (line partners : List ℕ) (i : ℕ) (seen : FinSet nat_cmp)
    (pairs : List Pair)
    → i < length line
    → All (λ v. v < NO_POINT) line
    → contains seen (get_or partners (get_or line i 0) 0) ≡ true
    → HasPassed own line partners i seen
    → ArePartners partners pairs
    → Any (HoldsPair line) pairs
holds-at own line partners i seen pairs lt range on h are =
    let x = get_or line i 0 in
    let w = get_or partners x 0 - 1 in
    let next : get_or partners x 0 ≡ w + 1 = elim (cases_eq (get_or partners x 0) 0) [
      | inl e ↦ absurd (h.first (sym (ap (contains seen) e) ∙ on))
      | inr ne ↦ omega (arith, ne)
    ] in
    let mine : Contains line x = Contains-get_or line i 0 lt in
    let other : Contains line w = h.within w (sym (ap (contains seen) next) ∙ on) in
    let x_small : x < NO_POINT = range i 0 lt in
    let found = are.told x w (omega (arith, x_small)) next in (
      found.0,
      found.1,
      found.2,
      found.3,
      elim found.4 [
        | inl e ↦ (
          subst (λ n. Contains line n) (sym e.0) mine,
          subst (λ n. Contains line n) (sym e.1) other,
        )
        | inr e ↦ (
          subst (λ n. Contains line n) (sym e.0) other,
          subst (λ n. Contains line n) (sym e.1) mine,
        )
      ],
    )

-- at the end of the line no pair was met, and no own point
pub unsafe-end : (own : FinSet nat_cmp) (line partners : List ℕ) (i : ℕ) (seen : FinSet nat_cmp)
    (pairs : List Pair)
    → length line ≤ i
    → HasPassed own line partners i seen
    → ArePartners partners pairs
    → IsSafe own pairs line
    → ⊥
unsafe-end own line partners i seen pairs end h are safe =
    let held = safe (list_any-none (contains own) line
    (λ t c. ap (contains own) (at t c) ∙ h.untouched c.0 (omega (arith, c.1, end)))) in
    h.apart pairs are held.1 (held.0, held.2, held.3) (in-seen held.1.a held.4.0)
    (in-seen held.1.b held.4.1)
  where
    at : (t : ℕ) (c : Contains line t) → t ≡ get_or line c.0 0
    at t c = sym c.2 ∙ get_or_default line c.0 t 0 c.1

    in-seen : (t : ℕ) → Contains line t → contains seen (t + 1) ≡ true
    in-seen t c = ap (λ n. contains seen (n + 1)) (at t c) ∙ h.met c.0 (omega (arith, c.1, end))

-- ---- the pairs

-- the pairs before a place have been told
pub record HasPaired (partners : List ℕ) (pairs : List Pair) (i : ℕ) : Type 0 where
  pub small : AreSmall partners
  pub paired : (j : ℕ) (d : Pair)
      → j < i
      → (get_or partners (get_or pairs j d).a 0 ≡ (get_or pairs j d).b + 1)
      × (get_or partners (get_or pairs j d).b 0 ≡ (get_or pairs j d).a + 1)
  pub told : (v w : ℕ) → v < MAX_MEMBERS → get_or partners v 0 ≡ w + 1 → Any (IsPairOf v w) pairs

pub paired-none : (partners : List ℕ) (pairs : List Pair)
    → length partners ≡ MAX_MEMBERS
    → ((v : ℕ) → v < MAX_MEMBERS → get_or partners v 0 ≡ 0)
    → HasPaired partners pairs 0
paired-none partners pairs count none = record {
  small = record { count = count; small = λ v lt. let e = none v lt in omega (arith, e) };
  paired = λ j d lt. absurd (omega (arith, lt));
  told = λ v w lt is. let e = none v lt in absurd (omega (arith, e, is));
}

pub paired-more : (partners : List ℕ) (pairs : List Pair) (i ka kb : ℕ) (d : Pair)
    → i < length pairs
    → ka ≡ (get_or pairs i d).a
    → kb ≡ (get_or pairs i d).b
    → All (λ s. (s.a < NO_POINT) × (s.b < NO_POINT)) pairs
    → All (λ s. s.a ≢ s.b) pairs
    → AllPairs SharesNone pairs
    → HasPaired partners pairs i
    → HasPaired (set (set partners ka ((get_or pairs i d).b + 1)) kb ((get_or pairs i d).a + 1))
    pairs (i + 1)
paired-more partners pairs i ka kb d lt ka_is kb_is range different disjoint h =
    let s = get_or pairs i d in
    subst (λ n. HasPaired (set (set partners ka (s.b + 1)) n (s.a + 1)) pairs (i + 1)) (sym kb_is)
    (subst (λ n. HasPaired (set (set partners n (s.b + 1)) s.b (s.a + 1)) pairs (i + 1)) (sym ka_is)
    (record {
      small = record {
        count = length-set (set partners s.a (s.b + 1)) s.b (s.a + 1)
            ∙ length-set partners s.a (s.b + 1)
            ∙ h.small.count;
        small = λ v below. elim (cases_eq v s.b) [
          | inl e ↦ let is = at-b v e in let few = (range i d lt).0 in omega (arith, is, few)
          | inr nb ↦ elim (cases_eq v s.a) [
            | inl e ↦ let is = at-a v e in let few = (range i d lt).1 in omega (arith, is, few)
            | inr na ↦
                let is = at-other v na nb in
                let few = h.small.small v below in
                omega (arith, is, few)
          ]
        ];
      };
      paired = λ j e below. elim (cases_eq j i) [
        | inl same ↦
            let is : get_or pairs j e ≡ s =
            ap (λ n. get_or pairs n e) same ∙ get_or_default pairs i e d lt in
            subst (λ t. (get_or next t.a 0 ≡ t.b + 1) × (get_or next t.b 0 ≡ t.a + 1)) (sym is)
            (at-a s.a refl, at-b s.b refl)
        | inr ne ↦
            let before : j < i = omega (arith, below, ne) in
            let t = get_or pairs j e in
            let shares = subst (λ u. SharesNone t u) (get_or_default pairs i e d lt)
            (disjoint j i e before lt) in
            let old = h.paired j e before in
            (at-other t.a shares.aa shares.ab ∙ old.0, at-other t.b shares.ba shares.bb ∙ old.1)
      ];
      told = λ v w few is. elim (cases_eq v s.b) [
        | inl e ↦
            let here = at-b v e in
            (i, s, lt, get_or_default pairs i s d lt, inr (omega (arith, here, is), sym e))
        | inr nb ↦ elim (cases_eq v s.a) [
          | inl e ↦
              let here = at-a v e in
              (i, s, lt, get_or_default pairs i s d lt, inl (sym e, omega (arith, here, is)))
          | inr na ↦ h.told v w few (sym (at-other v na nb) ∙ is)
        ]
      ];
    }))
  where
    next : List ℕ
    next = set (set partners (get_or pairs i d).a ((get_or pairs i d).b + 1)) (get_or pairs i d).b
        ((get_or pairs i d).a + 1)

    at-b : (v : ℕ) → v ≡ (get_or pairs i d).b → get_or next v 0 ≡ (get_or pairs i d).a + 1
    at-b v e =
        let count =
        length-set partners (get_or pairs i d).a ((get_or pairs i d).b + 1) ∙ h.small.count in
        let few = (range i d lt).1 in
        ap (λ n. get_or next n 0) e
        ∙ get_or-set_same (set partners (get_or pairs i d).a ((get_or pairs i d).b + 1))
        (get_or pairs i d).b ((get_or pairs i d).a + 1) 0 (omega (arith, count, few))

    at-a : (v : ℕ) → v ≡ (get_or pairs i d).a → get_or next v 0 ≡ (get_or pairs i d).b + 1
    at-a v e =
        let few = (range i d lt).0 in
        ap (λ n. get_or next n 0) e
        ∙ get_or-set_other (set partners (get_or pairs i d).a ((get_or pairs i d).b + 1))
        (get_or pairs i d).b (get_or pairs i d).a ((get_or pairs i d).a + 1) 0 (different i d lt)
        ∙ get_or-set_same partners (get_or pairs i d).a ((get_or pairs i d).b + 1) 0
        (omega (arith, h.small.count, few))

    at-other : (v : ℕ)
        → v ≢ (get_or pairs i d).a
        → v ≢ (get_or pairs i d).b
        → get_or next v 0 ≡ get_or partners v 0
    at-other v na nb =
        get_or-set_other (set partners (get_or pairs i d).a ((get_or pairs i d).b + 1))
        (get_or pairs i d).b v ((get_or pairs i d).a + 1) 0 nb
        ∙ get_or-set_other partners (get_or pairs i d).a v ((get_or pairs i d).b + 1) 0 na

-- all pairs told
pub partners-end : (partners : List ℕ) (pairs : List Pair) (i : ℕ)
    → length pairs ≤ i
    → All (λ s. s.a ≢ s.b) pairs
    → HasPaired partners pairs i
    → ArePartners partners pairs
partners-end partners pairs i end different h = record {
  different = λ s c. subst (λ t. t.a ≢ t.b) c.2 (different c.0 s c.1);
  paired = λ s c. subst (λ t. (get_or partners t.a 0 ≡ t.b + 1) × (get_or partners t.b 0 ≡ t.a + 1))
      c.2 (h.paired c.0 s (omega (arith, c.1, end)));
  told = h.told;
}

-- the points of pairs of the game are below the number that stands for none
pub pairs-below : (g : Game) (pairs : List Pair)
    → All (IsInGame g) pairs
    → All (λ s. (s.a < NO_POINT) × (s.b < NO_POINT)) pairs
pairs-below g pairs range =
    let few = point_count-le g in
    All-weaker (IsInGame g) (λ s. (s.a < NO_POINT) × (s.b < NO_POINT))
    (λ s here. (omega (arith, few, here.0), omega (arith, few, here.1))) pairs range

-- ---- the lines

-- one more line that is safe
pub safe-more : (own : FinSet nat_cmp) (pairs : List Pair) (lines : List (List ℕ)) (i : ℕ)
    (line : List ℕ)
    → i < length lines
    → line ≡ get_or lines i line
    → IsSafe own pairs line
    → ((j : ℕ) (d : List ℕ) → j < i → IsSafe own pairs (get_or lines j d))
    → (j : ℕ) (d : List ℕ) → j < i + 1
    → IsSafe own pairs (get_or lines j d)
safe-more own pairs lines i line lt is here before j d below = elim (cases_eq j i) [
  | inl e ↦ subst (λ l. IsSafe own pairs l)
      (is ∙ get_or_default lines i line d lt ∙ ap (λ n. get_or lines n d) (sym e)) here
  | inr ne ↦ before j d (omega (arith, below, ne))
]
