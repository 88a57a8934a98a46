-- How many edges it takes to join parts.
use Rattle.std.proofs.Common.{◌≡◌, ◌≢◌, ℕ, ◌+◌, ◌<◌, ◌≤◌, zero, suc, Bool, true, ◌&&◌, eqb, cond}
use Rattle.std.proofs.Common.{refl, inl, inr, sym, ap, ◌∙◌, subst, arith, List, [], ◌∷◌}
use Rattle.pg_switch.proofs.Common.{cases_Bool, cases_eq, cases_lt, both_ways, and_parts, and_from}
use Rattle.pg_switch.proofs.Common.{or_cases, or_left, or_right, not_from_false, eqb-true, eq-eqb}
use Rattle.pg_switch.proofs.Common.{ne_eqb, cond-true, cond-false, minus, below, count, one_if}
use Rattle.pg_switch.proofs.Common.{below_parts, minus_parts, minus_from, count_le, count_minus}
use Rattle.pg_switch.proofs.Common.{one_if-true, one_if-false, one_if_le, IsWalk, joins}
use Rattle.pg_switch.proofs.Common.{joins_sound, joins-below}
use Rattle.pg_switch.specs.Span.{joins_below, joins_pairs, joins_all, image, crosses, crossing}

-- ---- numbers of vertices

pub image-at : (label : ℕ → ℕ) (n u : ℕ) → u < n → image label n (label u) ≡ true
unfolding image
image-at label zero u l = absurd (omega arith)
image-at label (suc n) u l = elim (cases_eq u n) [
  | inl e ↦ or_left (eqb (label n) (label u)) _ (eq-eqb _ _ (ap label (sym e)))
  | inr d ↦ or_right (eqb (label n) (label u)) _ (image-at label n u (omega arith))
]

pub image-from : (label : ℕ → ℕ) (n v : ℕ)
    → image label n v ≡ true
    → (u : ℕ) × (u < n) × (label u ≡ v)
unfolding image
image-from label zero v h = absurd (both_ways _ refl h)
image-from label (suc n) v h = elim (or_cases (eqb (label n) v) _ h) [
  | inl e ↦ (n, omega arith, eqb-true (label n) v e)
  | inr k ↦ let w = image-from label n v k in (w.0, omega (arith, w.1), w.2)
]

-- the vertices with number x get number y
pub merged : ℕ → ℕ → (ℕ → ℕ) → ℕ → ℕ
merged x y label u = cond (eqb (label u) x) y (label u)

pub merged-in : (x y : ℕ) (label : ℕ → ℕ) (u : ℕ) → label u ≡ x → merged x y label u ≡ y
unfolding merged
merged-in x y label u e = cond-true (eqb (label u) x) _ _ (eq-eqb _ _ e)

pub merged-out : (x y : ℕ) (label : ℕ → ℕ) (u : ℕ) → label u ≢ x → merged x y label u ≡ label u
unfolding merged
merged-out x y label u d = cond-false (eqb (label u) x) _ _ (ne_eqb _ _ d)

merged-same : (x y : ℕ) (label : ℕ → ℕ) (u v : ℕ)
    → label u ≡ label v
    → merged x y label u ≡ merged x y label v
unfolding merged
merged-same x y label u v e = ap (λ (k : ℕ). cond (eqb k x) y k) e

-- a merger costs one number at most
merged-count : (x y : ℕ) (label : ℕ → ℕ) (n bound : ℕ)
    → count (image label n) bound ≤ count (image (merged x y label) n) bound + 1
merged-count x y label n bound =
    let rest : count (minus (image label n) x) bound ≤ count (image (merged x y label) n) bound =
    count_le (minus (image label n) x) (image (merged x y label) n) bound (λ v l h.
    let p : (image label n v ≡ true) × (x ≢ v) = minus_parts (image label n) x v h in
    let w = image-from label n v p.0 in
    let same : merged x y label w.0 ≡ v = merged-out x y label w.0 (λ e. p.1 (sym e ∙ w.2)) ∙ w.2 in
    subst (λ (k : ℕ). image (merged x y label) n k ≡ true) same
    (image-at (merged x y label) n w.0 w.1)) in
    elim (cases_Bool (image label n x)) [
      | inl on ↦ elim (cases_lt x bound) [
        | inl low ↦
            let one : count (minus (image label n) x) bound + 1 ≡ count (image label n) bound =
            count_minus (image label n) x bound on low in
            omega arith
        | inr high ↦
            let more : count (image label n) bound ≤ count (minus (image label n) x) bound =
            count_le (image label n) (minus (image label n) x) bound
            (λ v l h. minus_from (image label n) x v h (λ e. omega (arith, e))) in
            omega arith
      ]
      | inr off ↦
          let more : count (image label n) bound ≤ count (minus (image label n) x) bound =
          count_le (image label n) (minus (image label n) x) bound
          (λ v l h. minus_from (image label n) x v h
          (λ e. both_ways _ off (subst (λ (k : ℕ). image label n k ≡ true) (sym e) h))) in
          omega arith
    ]

one_number : (w n : ℕ) → count (eqb w) n ≤ 1
unfolding count
one_number w zero = omega arith
one_number w (suc n) = elim (cases_eq w n) [
  | inl e ↦
      let none : count (eqb w) n ≤ 0 = nothing w n (omega arith) in
      let here : one_if (eqb w n) ≤ 1 = one_if_le (eqb w n) true (λ _. refl) in
      omega arith
  | inr d ↦
      let here : one_if (eqb w n) ≡ 0 = one_if-false (eqb w n) (ne_eqb w n d) in
      let rest : count (eqb w) n ≤ 1 = one_number w n in
      omega arith
] where
  nothing : (w n : ℕ) → n ≤ w → count (eqb w) n ≤ 0
  nothing w zero l = omega arith
  nothing w (suc n) l =
      let here : one_if (eqb w n) ≡ 0 =
      one_if-false (eqb w n) (ne_eqb w n (λ e. omega (arith, e))) in
      let rest : count (eqb w) n ≤ 0 = nothing w n (omega arith) in
      omega arith

-- ---- edges that are merged one after the other

module _ (a b : ℕ → ℕ) (set : ℕ → Bool) (label : ℕ → ℕ) (n bound : ℕ) where
  abbrev crosses_in : ℕ → Bool
  crosses_in f = set f && crosses a b label f

  -- numbers after the ends of the set's edges below k were merged
  record IsMerged (k : ℕ) : Type 0 where
    pub final : ℕ → ℕ
    pub coarser : (u v : ℕ) → label u ≡ label v → final u ≡ final v
    pub joined : (f : ℕ) → f < k → set f ≡ true → final (a f) ≡ final (b f)
    pub few : count (image label n) bound ≤ count (image final n) bound + count crosses_in k

  count_more : (k : ℕ) → count crosses_in (suc k) ≡ one_if (crosses_in k) + count crosses_in k
  unfolding count
  count_more k = refl

  merge_all : (k : ℕ) → IsMerged k
  unfolding count
  merge_all zero = record {
    final = label;
    coarser = λ u v e. e;
    joined = λ f l. absurd (omega arith);
    few = omega arith;
  }
  merge_all (suc k) =
      let i = merge_all k in
      let more = count_more k in
      elim (cases_Bool (set k)) [
        | inr out ↦ record {
          final = i.final;
          coarser = i.coarser;
          joined = λ f l h. elim (cases_eq f k) [
            | inl e ↦ absurd (both_ways _ out (subst (λ (j : ℕ). set j ≡ true) e h))
            | inr d ↦ i.joined f (omega arith) h
          ];
          few = omega (arith, i.few, more);
        }
        | inl into ↦ elim (cases_eq (i.final (a k)) (i.final (b k))) [
          | inl same ↦ record {
            final = i.final;
            coarser = i.coarser;
            joined = λ f l h. elim (cases_eq f k) [
              | inl e ↦ subst (λ (j : ℕ). i.final (a j) ≡ i.final (b j)) (sym e) same
              | inr d ↦ i.joined f (omega arith) h
            ];
            few = omega (arith, i.few, more);
          }
          | inr apart ↦
              let x = i.final (a k) in
              let y = i.final (b k) in
              let cross : crosses_in k ≡ true = and_from _ _ into
              (not_from_false _ (ne_eqb _ _ (λ e. apart (i.coarser (a k) (b k) e)))) in
              let one : one_if (crosses_in k) ≡ 1 = one_if-true (crosses_in k) cross in
              let cost = merged-count x y i.final n bound in
              record {
                final = merged x y i.final;
                coarser = λ u v e. merged-same x y i.final u v (i.coarser u v e);
                joined = λ f l h. elim (cases_eq f k) [
                  | inl e ↦ subst (λ (j : ℕ). merged x y i.final (a j) ≡ merged x y i.final (b j))
                      (sym e) (merged-in x y i.final (a k) refl
                      ∙ sym (merged-out x y i.final (b k) (λ q. apart (sym q))))
                  | inr d ↦ merged-same x y i.final (a f) (b f) (i.joined f (omega arith) h)
                ];
                few = omega (arith, i.few, more, one, cost);
              }
        ]
      ]

  walk_same : (m : ℕ) (final : ℕ → ℕ)
      → ((f : ℕ) → f < m → set f ≡ true → final (a f) ≡ final (b f))
      → (ks : List ℕ) (u v : ℕ) → IsWalk a b (below set m) ks u v
      → final u ≡ final v
  walk_same m final same [] u v h = ap final h
  walk_same m final same (k ∷ ks) u v h =
      let q : (set k ≡ true) × (k < m) = below_parts set m k h.0 in
      let e : final (a k) ≡ final (b k) = same k q.1 q.0 in
      elim h.1 [
        | inl w ↦ ap final (sym w.0) ∙ (e ∙ walk_same m final same ks (b k) v w.1)
        | inr w ↦ ap final (sym w.0) ∙ (sym e ∙ walk_same m final same ks (a k) v w.1)
      ]

  joined_same : (m : ℕ) (i : IsMerged m) (u v : ℕ)
      → joins a b set m u v ≡ true
      → i.final u ≡ i.final v
  joined_same m i u v h =
      let j = joins_sound a b (below set m) m u v (joins-below a b set m u v ∙ h) in
      walk_same m i.final i.joined j.edges u v j.walk

  joined_below : (m u k v : ℕ)
      → joins_below a b m set u k ≡ true
      → v < k
      → joins a b set m u v ≡ true
  unfolding joins_below
  joined_below m u zero v h l = absurd (omega arith)
  joined_below m u (suc k) v h l = elim (cases_eq v k) [
    | inl e ↦ subst (λ (j : ℕ). joins a b set m u j ≡ true) (sym e) (and_parts _ _ h).0
    | inr d ↦ joined_below m u k v (and_parts (joins a b set m u k) _ h).1 (omega arith)
  ]

  pub joined_pairs : (m k u v : ℕ)
      → joins_pairs a b m n set k ≡ true
      → u < k
      → v < n
      → joins a b set m u v ≡ true
  unfolding joins_pairs
  joined_pairs m zero u v h l r = absurd (omega arith)
  joined_pairs m (suc k) u v h l r = elim (cases_eq u k) [
    | inl e ↦ subst (λ (j : ℕ). joins a b set m j v ≡ true) (sym e)
        (joined_below m k n v (and_parts (joins_below a b m set k n) _ h).0 r)
    | inr d ↦ joined_pairs m k u v (and_parts (joins_below a b m set k n) _ h).1 (omega arith) r
  ]

  -- edges that join every two vertices cross between q numbers at least q - 1 times
  pub crossing_many : (m : ℕ)
      → joins_all a b m n set ≡ true
      → count (image label n) bound ≤ crossing a b m label set + 1
  crossing_many m h =
      let i = merge_all m in
      let one : count (image i.final n) bound ≤ count (eqb (i.final 0)) bound =
      count_le (image i.final n) (eqb (i.final 0)) bound (λ v l k.
      let w = image-from i.final n v k in
      eq-eqb _ _
      (joined_same m i 0 w.0 (joined_pairs m n 0 w.0 h (omega (arith, w.1)) w.1) ∙ w.2)) in
      let single : count (eqb (i.final 0)) bound ≤ 1 = one_number (i.final 0) bound in
      omega (arith, i.few, one, single)
