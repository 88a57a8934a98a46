-- Moves are taken one after the other.
use Rattle.std.proofs.Common.{◌≡◌, ◌≢◌, ℕ, zero, suc, ◌<◌, ◌≤◌, ◌+◌, Some, List, [], ◌∷◌, ◌++◌}
use Rattle.std.proofs.Common.{length, slice_get, slice_set, replicate, refl, sym, ap, ◌∙◌, subst}
use Rattle.std.proofs.Common.{inl, inr, arith}
use Rattle.pg_leaf.proofs.Common.{Contains, cases_eq, cases_order, slice_get_within, length-set}
use Rattle.pg_leaf.proofs.Common.{at_push, at_new, at_contains, contains_push, contains_old}
use Rattle.pg_leaf.proofs.Common.{at_set_other, at_set_same, one_at, some≢none}
use Rattle.std.proofs.lemmas.List.{length-replicate}
use Rattle.pg_leaf.specs.declared.order.Order.{Order}
use Rattle.pg_leaf.specs.Order.{IsPlaceOf, IsToCome, IsTaking, IsOrder, Takes}

same-point : (moves : List (ℕ × ℕ)) (k v w : ℕ) → IsPlaceOf moves k v → IsPlaceOf moves k w → v ≡ w
same-point moves k v w a b = ap (λ (m : ℕ × ℕ). m.0) (one_at moves k (v, a.0) (w, b.0) a.1 b.1)

-- ---- no move is taken yet

-- the first moves, so many, are noted at their points, and k is the next one's place, as far as
-- there is a number for it
pub record AreNoted (moves : List (ℕ × ℕ)) (n k : ℕ) (left : List ℕ) : Type 0 where
  pub next : n ≤ 65535 → k ≡ n
  pub full : 65535 ≤ n → k ≡ 65535
  pub size : length left ≡ 256
  pub from : (v j : ℕ) → slice_get left v ≡ Some j → j ≢ 65535 → IsPlaceOf moves j v
  pub all : n ≤ 65535 → (j v : ℕ) → j < n → IsPlaceOf moves j v → v < 256 → IsToCome left v

replicated : (n x v j : ℕ) → slice_get (replicate n x) v ≡ Some j → j ≡ x
replicated zero x v j at = absurd (some≢none (sym at))
replicated (suc n) x zero j at = sym (one_at (x ∷ []) 0 x j refl at)
replicated (suc n) x (suc v) j at = replicated n x v j at

pub none-noted : (moves : List (ℕ × ℕ)) → AreNoted moves 0 0 (replicate 256 65535)
none-noted moves = record {
  next = λ low. refl;
  full = λ high. absurd (omega (arith, high));
  size = length-replicate {A = ℕ} 256 65535;
  from = λ v j at some. absurd (some (replicated 256 65535 v j at));
  all = λ few j v low p below. absurd (omega (arith, low));
}

module _ (moves : List (ℕ × ℕ)) (n k : ℕ) (left : List ℕ) (is : AreNoted moves n k left) where
  place : k ≢ 65535 → k ≡ n
  place some = elim (cases_order n 65535) [
    | inl e ↦ is.next (omega (arith, e))
    | inr apart ↦ elim apart [
      | inl less ↦ is.next (omega (arith, less))
      | inr more ↦ absurd (some (is.full (omega (arith, more))))
    ]
  ]

  next-place : (next : ℕ) → (k + 1 ≤ 65535 → next ≡ k + 1) → n + 1 ≤ 65535 → next ≡ n + 1
  next-place next more few =
      let now = is.next (omega (arith, few)) in
      let is_more = more (omega (arith, few, now)) in
      omega (arith, now, is_more)

  next-full : (next : ℕ) → (65535 ≤ k + 1 → next ≡ 65535) → 65535 ≤ n + 1 → next ≡ 65535
  next-full next full many = elim (cases_order n 65535) [
    | inl e ↦ let now = is.next (omega (arith, e)) in full (omega (arith, now, e))
    | inr apart ↦ elim apart [
      | inl less ↦ let now = is.next (omega (arith, less)) in full (omega (arith, now, many))
      | inr more ↦ let now = is.full (omega (arith, more)) in full (omega (arith, now))
    ]
  ]

  -- a move to a point that is too great isn't noted
  pub noted-over : (v beside next : ℕ)
      → slice_get moves n ≡ Some (v, beside)
      → 256 ≤ v
      → (k + 1 ≤ 65535 → next ≡ k + 1)
      → (65535 ≤ k + 1 → next ≡ 65535)
      → AreNoted moves (n + 1) next left
  noted-over v beside next at high more full = record {
    next = next-place next more;
    full = next-full next full;
    size = is.size;
    from = is.from;
    all = λ few j w low p below. elim (cases_eq j n) [
      | inl e ↦
          let same =
          same-point moves n w v (subst (λ (i : ℕ). IsPlaceOf moves i w) e p) (beside, at) in
          absurd (omega (arith, same, high, below))
      | inr ne ↦ is.all (omega (arith, few)) j w (omega (arith, low, ne)) p below
    ];
  }

  pub noted-more : (v beside next : ℕ)
      → slice_get moves n ≡ Some (v, beside)
      → v < 256
      → (k + 1 ≤ 65535 → next ≡ k + 1)
      → (65535 ≤ k + 1 → next ≡ 65535)
      → AreNoted moves (n + 1) next (slice_set left v k)
  noted-more v beside next at within more full = record {
    next = next-place next more;
    full = next-full next full;
    size = length-set left v k ∙ is.size;
    from = λ w j h some. elim (cases_eq w v) [
      | inl e ↦
          let same : j ≡ k = one_at (slice_set left v k) v j k
          (subst (λ (u : ℕ). slice_get (slice_set left v k) u ≡ Some j) e h) here in
          let is_next : k ≡ n = place (λ full. some (same ∙ full)) in (
            beside,
            ap (slice_get moves) (same ∙ is_next) ∙ at ∙ ap (λ (u : ℕ). Some (u, beside)) (sym e),
          )
      | inr ne ↦ is.from w j (sym (at_set_other left v w k ne) ∙ h) some
    ];
    all = λ few j w low p below. elim (cases_eq w v) [
      | inl e ↦ (
        k,
        subst (λ (u : ℕ). slice_get (slice_set left v k) u ≡ Some k) (sym e) here,
        λ full. let is_next = is.next (omega (arith, few)) in omega (arith, full, is_next, few),
      )
      | inr ne ↦ elim (cases_eq j n) [
        | inl same ↦
            absurd (ne (same-point moves n w v (subst (λ (i : ℕ). IsPlaceOf moves i w) same p) (
              beside,
              at,
            )))
        | inr other ↦
            let old = is.all (omega (arith, few)) j w (omega (arith, low, other)) p below in
            (old.0, at_set_other left v w k ne ∙ old.1, old.2)
      ]
    ];
  }
    where
      here : slice_get (slice_set left v k) v ≡ Some k
      here = at_set_same left v k (omega (arith, within, is.size))

pub none-taken : (moves : List (ℕ × ℕ)) (n k : ℕ) (left : List ℕ)
    → length moves ≤ n
    → n ≤ length moves
    → AreNoted moves n k left
    → IsTaking moves [] left
none-taken moves n k left most least is = record {
  range = λ j c. absurd (omega (arith, c.1));
  different = λ i j m a b. let w = slice_get_within [] i m a in absurd (omega (arith, w));
  from = is.from;
  gone = λ j v c p. absurd (omega (arith, c.1));
  all = λ few j v p low.
      let w = slice_get_within moves j (v, p.0) p.1 in
      inl (is.all (omega (arith, few, least)) j v (omega (arith, w, most)) p low);
}

-- ---- one more is taken

module _ (moves : List (ℕ × ℕ)) (members left : List ℕ) (v k : ℕ) (is : IsTaking moves members left)
    (at : slice_get left v ≡ Some k) (some : k ≢ 65535) where
  here : IsPlaceOf moves k v
  here = is.from v k at some

  fresh : (j : ℕ) → k ≡ j → Contains members j → ⊥
  fresh j same c = some (one_at left v k 65535 at
      (is.gone k v (subst (λ (i : ℕ). Contains members i) (sym same) c) here))

  taken : slice_get (slice_set left v 65535) v ≡ Some 65535
  taken = at_set_same left v 65535 (slice_get_within left v k at)

  pub one-taken : IsTaking moves (members ++ k ∷ []) (slice_set left v 65535)
  one-taken = record {
    range = λ j c. elim (contains_push members k j c) [
      | inl old ↦ is.range j old
      | inr new ↦ let w = slice_get_within moves k (v, here.0) here.1 in omega (arith, w, new)
    ];
    different = λ i j m a b. elim (at_push members k m i a) [
      | inl old ↦ elim (at_push members k m j b) [
        | inl other ↦ is.different i j m old other
        | inr new ↦ absurd (fresh m new.1 (at_contains members i m old))
      ]
      | inr new ↦ elim (at_push members k m j b) [
        | inl old ↦ absurd (fresh m new.1 (at_contains members j m old))
        | inr same ↦ new.0 ∙ sym same.0
      ]
    ];
    from = λ w j h other. elim (cases_eq w v) [
      | inl e ↦ absurd (other (one_at (slice_set left v 65535) v j 65535
          (subst (λ (u : ℕ). slice_get (slice_set left v 65535) u ≡ Some j) e h) taken))
      | inr ne ↦ is.from w j (sym (at_set_other left v w 65535 ne) ∙ h) other
    ];
    gone = λ j w c p. elim (cases_eq w v) [
      | inl e ↦ subst (λ (u : ℕ). slice_get (slice_set left v 65535) u ≡ Some 65535) (sym e) taken
      | inr ne ↦ elim (contains_push members k j c) [
        | inl old ↦ at_set_other left v w 65535 ne ∙ is.gone j w old p
        | inr new ↦ absurd
            (ne (same-point moves k w v (subst (λ (i : ℕ). IsPlaceOf moves i w) (sym new) p) here))
      ]
    ];
    all = λ few j w p low. elim (cases_eq w v) [
      | inl e ↦ inr (
        k,
        at_contains (members ++ k ∷ []) (length members) k (at_new members k),
        subst (λ (u : ℕ). IsPlaceOf moves k u) (sym e) here,
      )
      | inr ne ↦ elim (is.all few j w p low) [
        | inl waits ↦ inl (waits.0, at_set_other left v w 65535 ne ∙ waits.1, waits.2)
        | inr old ↦ inr (old.0, contains_old members k old.0 old.1, old.2)
      ]
    ];
  }

-- a point that has no place to come has none afterwards
pub stays-gone : (left : List ℕ) (v w k : ℕ)
    → slice_get left v ≡ Some k
    → slice_get left w ≡ Some 65535
    → slice_get (slice_set left v 65535) w ≡ Some 65535
stays-gone left v w k at gone = elim (cases_eq w v) [
  | inl e ↦ subst (λ (u : ℕ). slice_get (slice_set left v 65535) u ≡ Some 65535) (sym e)
      (at_set_same left v 65535 (slice_get_within left v k at))
  | inr ne ↦ at_set_other left v w 65535 ne ∙ gone
]

-- ---- all are taken

-- the first moves, so many, are taken
abbrev pub AreGone : List (ℕ × ℕ) → ℕ → List ℕ → Type 0
AreGone moves n left =
    (k v : ℕ) → k < n → IsPlaceOf moves k v → v < 256 → slice_get left v ≡ Some 65535

pub all-taken : (moves : List (ℕ × ℕ)) (members left : List ℕ)
    → IsTaking moves members left
    → AreGone moves (length moves) left
    → IsOrder moves members
all-taken moves members left is gone = record {
  range = is.range;
  different = is.different;
  all = λ few k v p low. elim (is.all few k v p low) [
    | inr has ↦ has
    | inl waits ↦
        let w = slice_get_within moves k (v, p.0) p.1 in
        absurd (waits.2 (one_at left v waits.0 65535 waits.1 (gone k v w p low)))
  ];
}

-- ---- step after step

pub takes-on : (old now new : Order) → Takes old now → Takes now new → Takes old new
takes-on old now new before step = record {
  keeps = λ moves is. step.keeps moves (before.keeps moves is);
  gone = λ v is. step.gone v (before.gone v is);
}

-- one more of the moves is taken
pub more-gone : (moves : List (ℕ × ℕ)) (n v beside : ℕ) (left more : List ℕ)
    → slice_get moves n ≡ Some (v, beside)
    → AreGone moves n left
    → ((w : ℕ) → slice_get left w ≡ Some 65535 → slice_get more w ≡ Some 65535)
    → (v < 256 → slice_get more v ≡ Some 65535)
    → AreGone moves (n + 1) more
more-gone moves n v beside left more at gone stay taken k w low p below = elim (cases_eq k n) [
  | inl e ↦
      let same = same-point moves n w v (subst (λ (i : ℕ). IsPlaceOf moves i w) e p) (beside, at) in
      subst (λ (u : ℕ). slice_get more u ≡ Some 65535) (sym same)
      (taken (omega (arith, same, below)))
  | inr ne ↦ stay w (gone k w (omega (arith, low, ne)) p below)
]
