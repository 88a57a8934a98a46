-- The copies of plain nodes that are met, in order, and at which of them the others settle.
use Rattle.std.proofs.Common.{◌≡◌, ◌⊎◌, ℕ, zero, suc, ◌+◌, ◌*◌, ◌/◌, ◌%◌, ◌<◌, ◌≤◌, Bool, true}
use Rattle.std.proofs.Common.{false, cond, ◌&&◌, List, [], ◌∷◌, ◌++◌, length, get_or, Option, Some}
use Rattle.std.proofs.Common.{None, slice_get, refl, sym, ap, ◌∙◌, subst, inl, inr, arith}
use Rattle.pg_unfold.proofs.Common.{FinSet, AllPairs, Contains, nat_cmp, cases_Bool, cases_lt}
use Rattle.pg_unfold.proofs.Common.{and_parts, false≢true, Contains-get_or, Contains-push_cases}
use Rattle.pg_unfold.proofs.Common.{append-nil, length-append, slice_get_within}
use Rattle.pg_unfold.proofs.Common.{get_or_from_slice_get, Side, Node, ImageNode, Plain, Image}
use Rattle.pg_unfold.proofs.Common.{numbered, number_of, followed_by, GridMap, number-numbered}
use Rattle.pg_unfold.proofs.Common.{IsMarked}
use Rattle.std.proofs.lemmas.List.Quantifiers.{all_pairs_push}
use Rattle.pg_unfold.specs.Copies.{Copy, IsPlain, IsAt, IsMet, ComesBefore, AreCopies, IsPlaced}
use Rattle.pg_unfold.specs.Marks.{key_of, copy_at, AreMet, is_plain, is_true, is_kept, copies_below}
use Rattle.pg_unfold.specs.Marks.{copies_of}
use Rattle.pg_unfold.proofs.Keys.{copy_at-key}

-- ---- elements of lists by their places

pub at_end : {A : Type 0} (xs : List A) (x : A) → slice_get (xs ++ x ∷ []) (length xs) ≡ Some x
at_end [] x = refl
at_end (y ∷ ys) x = at_end ys x

pub at_before : {A : Type 0} (xs ys : List A) (i : ℕ) (x : A)
    → slice_get xs i ≡ Some x
    → slice_get (xs ++ ys) i ≡ Some x
at_before [] ys i x h = absurd cc
at_before (y ∷ xs) ys zero x h = h
at_before (y ∷ xs) ys (suc i) x h = at_before xs ys i x h

pub at_push : {A : Type 0} (xs : List A) (y : A) (i : ℕ) (x : A)
    → slice_get (xs ++ y ∷ []) i ≡ Some x
    → (slice_get xs i ≡ Some x) ⊎ ((i ≡ length xs) × (x ≡ y))
at_push [] y zero x h = inr (refl, let e : Some y ≡ Some x = h in cc)
at_push [] y (suc i) x h = absurd cc
at_push (z ∷ xs) y zero x h = inl h
at_push (z ∷ xs) y (suc i) x h = elim (at_push xs y i x h) [
  | inl was ↦ inl was
  | inr e ↦ inr (ap suc e.0, e.1)
]

pub Contains-at : {A : Type 0} (xs : List A) (i : ℕ) (x : A)
    → slice_get xs i ≡ Some x
    → Contains xs x
Contains-at xs i x h = (i, slice_get_within xs i x h, get_or_from_slice_get xs i x x h)

-- ---- the copies of plain nodes

-- the node is plain where it is said to be
plain-from : (nodes : List ImageNode) (k : ℕ)
    → is_plain (slice_get nodes k) ≡ true
    → (node : Node) × (slice_get nodes k ≡ Some (Plain node))
plain-from nodes k on = by (slice_get nodes k) refl on
  where
    by : (o : Option ImageNode)
        → slice_get nodes k ≡ o
        → is_plain o ≡ true
        → (node : Node) × (slice_get nodes k ≡ Some (Plain node))
    by None e h = absurd (false≢true h)
    by (Some (Plain node)) e h = (node, e)
    by (Some (Image x y turn left m child)) e h = absurd (false≢true h)

pub plain-at : (nodes : List ImageNode) (c : Copy)
    → IsAt nodes c IsPlain
    → (node : Node) × (slice_get nodes c.node ≡ Some (Plain node))
plain-at nodes c h = by h.node h.at h.holds
  where
    by : (n : ImageNode)
        → slice_get nodes c.node ≡ Some n
        → IsPlain n
        → (node : Node) × (slice_get nodes c.node ≡ Some (Plain node))
    by (Plain node) e is = (node, e)
    by (Image x y turn left m child) e is = absurd is

marked-true : (o : Option Bool) → is_true o ≡ true → o ≡ Some true
marked-true None h = absurd (false≢true h)
marked-true (Some b) h = ap Some h

module _ (nodes : List ImageNode) (marks : List Bool) where
  pub kept-from : (key : ℕ)
      → is_kept nodes marks key ≡ true
      → IsMarked marks key × ((node : Node) × (slice_get nodes (key / 8) ≡ Some (Plain node)))
  kept-from key on =
      let both = and_parts _ _ on in
      (marked-true (slice_get marks key) both.0, plain-from nodes (key / 8) both.1)

  pub kept-at : (key : ℕ) (node : Node)
      → IsMarked marks key
      → slice_get nodes (key / 8) ≡ Some (Plain node)
      → is_kept nodes marks key ≡ true
  kept-at key node on at =
      ap (λ o. is_true o && is_plain (slice_get nodes (key / 8))) on ∙ ap (λ o. is_plain o) at

  pub kept-unmarked : (key : ℕ) → (IsMarked marks key → ⊥) → is_kept nodes marks key ≡ false
  kept-unmarked key not = elim (cases_Bool (is_kept nodes marks key)) [
    | inl on ↦ absurd (not (kept-from key on).0)
    | inr off ↦ off
  ]

  pub kept-image : (key : ℕ) (x y : FinSet nat_cmp) (turn : Side) (left : ℕ) (m : GridMap)
      (child : ℕ)
      → slice_get nodes (key / 8) ≡ Some (Image x y turn left m child)
      → is_kept nodes marks key ≡ false
  kept-image key x y turn left m child at = elim (cases_Bool (is_kept nodes marks key)) [
    | inl on ↦
        let plain = (kept-from key on).1 in
        let e : Some (Plain plain.0) ≡ Some (Image x y turn left m child) = sym plain.1 ∙ at in
        absurd cc
    | inr off ↦ off
  ]

  pub below-kept : (key : ℕ)
      → is_kept nodes marks key ≡ true
      → copies_below nodes marks (suc key) ≡ copies_below nodes marks key ++ copy_at key ∷ []
  below-kept key on = ap (λ b. copies_below nodes marks key ++ (cond b (copy_at key ∷ []) [])) on

  pub below-left : (key : ℕ)
      → is_kept nodes marks key ≡ false
      → copies_below nodes marks (suc key) ≡ copies_below nodes marks key
  below-left key off = ap (λ b. copies_below nodes marks key ++ (cond b (copy_at key ∷ []) [])) off
      ∙ append-nil (copies_below nodes marks key)

  pub below-length : (key : ℕ) → length (copies_below nodes marks key) ≤ key
  below-length zero = omega arith
  below-length (suc key) =
      let less = below-length key in
      elim (cases_Bool (is_kept nodes marks key)) [
        | inl on ↦
            let e = ap length (below-kept key on)
            ∙ length-append (copies_below nodes marks key) (copy_at key ∷ []) in
            omega (arith, e, less)
        | inr off ↦ let e = ap length (below-left key off) in omega (arith, e, less)
      ]

  pub below-more : (key n : ℕ)
      → key ≤ n
      → length (copies_below nodes marks key) ≤ length (copies_below nodes marks n)
  below-more key zero le =
      let same : key ≡ 0 = omega (arith, le) in
      subst (λ (k : ℕ). length (copies_below nodes marks k) ≤ 0) (sym same) (omega arith)
  below-more key (suc n) le = elim (cases_lt n key) [
    | inl over ↦
        let same : key ≡ suc n = omega (arith, le, over) in
        subst (λ (k : ℕ).
        length (copies_below nodes marks k) ≤ length (copies_below nodes marks (suc n))) (sym same)
        (omega arith)
    | inr low ↦
        let before = below-more key n low in
        let more = length-append (copies_below nodes marks n)
        (cond (is_kept nodes marks n) (copy_at n ∷ []) []) in
        omega (arith, before, more)
  ]

  -- the copy with a place stands behind those with lower places
  pub copy-at : (n key : ℕ)
      → key < n
      → is_kept nodes marks key ≡ true
      → slice_get (copies_below nodes marks n) (length (copies_below nodes marks key))
      ≡ Some (copy_at key)
  copy-at zero key lt on = absurd (omega (arith, lt))
  copy-at (suc n) key lt on = elim (cases_lt key n) [
    | inl less ↦
        at_before (copies_below nodes marks n) (cond (is_kept nodes marks n) (copy_at n ∷ []) [])
        (length (copies_below nodes marks key)) (copy_at key) (copy-at n key less on)
    | inr ge ↦
        let same : n ≡ key = omega (arith, lt, ge) in
        subst
        (λ m. slice_get (copies_below nodes marks (suc m)) (length (copies_below nodes marks key))
        ≡ Some (copy_at key)) (sym same)
        (subst (λ cs. slice_get cs (length (copies_below nodes marks key)) ≡ Some (copy_at key))
        (sym (below-kept key on)) (at_end (copies_below nodes marks key) (copy_at key)))
  ]

  -- each is the copy with a place
  below-from : (n : ℕ) (c : Copy)
      → Contains (copies_below nodes marks n) c
      → (key : ℕ) × (key < n) × (is_kept nodes marks key ≡ true) × (copy_at key ≡ c)
  below-from zero c h = absurd (let lt = h.1 in omega (arith, lt))
  below-from (suc n) c h = elim (cases_Bool (is_kept nodes marks n)) [
    | inl on ↦ elim (Contains-push_cases (copies_below nodes marks n) (copy_at n) c
        (subst (λ cs. Contains cs c) (below-kept n on) h)) [
          | inl was ↦
              let k = below-from n c was in
              (k.0, let lt = k.1 in omega (arith, lt), k.2, k.3)
          | inr e ↦ (n, omega arith, on, e)
        ]
    | inr off ↦
        let k = below-from n c (subst (λ cs. Contains cs c) (below-left n off) h) in
        (k.0, let lt = k.1 in omega (arith, lt), k.2, k.3)
  ]

  comes-before : (i j : ℕ) → i < j → ComesBefore (copy_at i) (copy_at j)
  comes-before i j lt = elim (cases_lt (i / 8) (j / 8)) [
    | inl less ↦ inl less
    | inr ge ↦
        let few : i % 8 < 8 = omega arith in
        let low : j % 8 < 8 = omega arith in
        let a = number-numbered (i % 8) few in
        let b = number-numbered (j % 8) low in
        inr (omega (arith, ge, lt), omega (arith, ge, lt, a, b))
  ]

  below-ascend : (n : ℕ) → AllPairs ComesBefore (copies_below nodes marks n)
  below-ascend zero = λ i j d before inside. absurd (omega (arith, inside))
  below-ascend (suc n) = elim (cases_Bool (is_kept nodes marks n)) [
    | inl on ↦ subst (AllPairs ComesBefore) (sym (below-kept n on))
        (all_pairs_push ComesBefore (copies_below nodes marks n) (copy_at n) (below-ascend n)
        (λ k d lt.
        let from = below-from n (get_or (copies_below nodes marks n) k d)
        (Contains-get_or (copies_below nodes marks n) k d lt) in
        subst (λ (c : Copy). ComesBefore c (copy_at n)) from.3 (comes-before from.0 n from.1)))
    | inr off ↦ subst (AllPairs ComesBefore) (sym (below-left n off)) (below-ascend n)
  ]

  module _ (met : AreMet nodes marks) where
    pub AreCopies-of : AreCopies nodes (copies_of nodes marks)
    AreCopies-of = record {
      met = λ c has.
          let from = below-from (length marks) c has in
          let kept = kept-from from.0 from.2 in
          subst (λ (d : Copy). IsMet nodes d × IsAt nodes d IsPlain) from.3
          (met.sound from.0 kept.0, record { node = Plain kept.1.0; at = kept.1.1; holds = tt });
      all = λ c is plain.
          let on = met.complete c is in
          let source = plain-at nodes c plain in
          let at : slice_get nodes (key_of c / 8) ≡ Some (Plain source.0) =
          ap (λ (d : Copy). slice_get nodes d.node) (copy_at-key c) ∙ source.1 in
          let there = copy-at (length marks) (key_of c) (slice_get_within marks (key_of c) true on)
          (kept-at (key_of c) source.0 on at) in
          subst (Contains (copies_of nodes marks)) (copy_at-key c)
          (Contains-at (copies_of nodes marks) (length (copies_below nodes marks (key_of c)))
          (copy_at (key_of c)) there);
      ascending = below-ascend (length marks);
    }

    -- a copy of a plain node settles at itself, and another where that settles for which it stands
    pub placed-plain : (key : ℕ) (node : Node)
        → IsMarked marks key
        → slice_get nodes (key / 8) ≡ Some (Plain node)
        → IsPlaced nodes (copies_of nodes marks) (copy_at key)
        (length (copies_below nodes marks key))
    placed-plain key node on at = record {
      plain = copy_at key;
      settles = (0, (record { node = Plain node; at = at; holds = tt }, refl));
      at = copy-at (length marks) key (slice_get_within marks key true on) (kept-at key node on at);
    }

    module _ (key place : ℕ) (x y : FinSet nat_cmp) (turn : Side) (left : ℕ) (m : GridMap)
        (child : ℕ) (on : IsMarked marks key)
        (at : slice_get nodes (key / 8) ≡ Some (Image x y turn left m child)) where
      pub marked-next : IsMarked marks (8 * child + number_of (followed_by m (numbered (key % 8))))
      marked-next =
          let is = met.sound key on in
          met.complete (record { node = child; map = followed_by m (numbered (key % 8)) }) (
            suc is.0,
            (
              copy_at key,
              is.1,
              record { node = Image x y turn left m child; at = at; holds = refl },
            ),
          )

      pub placed-image : IsPlaced nodes (copies_of nodes marks)
          (copy_at (8 * child + number_of (followed_by m (numbered (key % 8))))) place
          → IsPlaced nodes (copies_of nodes marks) (copy_at key) place
      placed-image h =
          let next : Copy = record { node = child; map = followed_by m (numbered (key % 8)) } in
          let there : IsPlaced nodes (copies_of nodes marks) next place = subst
          (λ (d : Copy). IsPlaced nodes (copies_of nodes marks) d place) (copy_at-key next) h in
          record {
            plain = there.plain;
            settles = (
              suc there.settles.0,
              (
                next,
                record { node = Image x y turn left m child; at = at; holds = refl },
                there.settles.1,
              ),
            );
            at = there.at;
          }
