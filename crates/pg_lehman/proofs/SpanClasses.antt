-- The sets that two settled bases give are trees and cuts in a game of spanning e, and what they
-- make the class: one proof for graphs and for all other grounds.
use Rattle.std.proofs.Common.{◌≡◌, ℕ, ◌<◌, ◌≤◌, suc, Bool, true, false, not, ◌⊎◌, inl, inr, refl}
use Rattle.std.proofs.Common.{sym, subst, subst₂, arith, Some}
use Rattle.pg_lehman.proofs.Common.{both_ways, cases_Bool, cases_lt, and_from, false_from_ne_true}
use Rattle.pg_lehman.proofs.Common.{not-true, not_from_false, FinSet, contains, nat_cmp, both}
use Rattle.pg_lehman.proofs.Common.{either, outside, below, IsWithin, IsBelow, Win, XWins, Draw}
use Rattle.pg_lehman.proofs.Common.{YWins, Side, X, Y, plus_cases, plus_old, plus_new, both_parts}
use Rattle.pg_lehman.proofs.Common.{both_from, either_cases, either_left, either_right}
use Rattle.pg_lehman.proofs.Common.{outside_parts, outside_from, IsSpan, IsTrees, IsCuts, AreBases}
use Rattle.pg_lehman.proofs.Common.{Matroid, Position, class_by, kept, span_rules, IsPlace}
use Rattle.pg_lehman.proofs.Common.{AreFreeOrE, AreFree, AreSpanTrees, AreSpanCuts}
use Rattle.pg_base.specs.Points.{ShareNone}
use Rattle.pg_base.specs.declared.score.Score.{Score}
use Rattle.pg_base.proofs.BelowLemmas.{below_parts, below_from, same_sets}
use Rattle.pg_graph.proofs.Swap.{spans_mono}
use Rattle.pg_graph.proofs.Classes.{IsTrees-reached, IsCuts-unreached}
use Rattle.pg_game.specs.Position.{is_free}
use Rattle.pg_game.specs.Rules.{value_by, reaches}
use Rattle.pg_switch.proofs.SpanLaws.{ForcesBy-trees, ForcesBy-cuts}
use Rattle.pg_lehman.specs.declared.class.Class.{Class}
use Rattle.pg_lehman.specs.declared.class.Class.TheVariants.{Short, Cut, First}
use Rattle.pg_lehman.specs.Sets.{named}
use Rattle.pg_lehman.specs.SpanSets.{free_with_e, SpanSetsHold}
use Rattle.pg_lehman.specs.Taken.{IsTakenShort, IsTakenCut, IsTakenFirst, IsTaken}

-- the elements, and what a set of them spans together with x
abbrev matroid_over : ((ℕ → Bool) → ℕ → Bool) → (ℕ → Bool) → (ℕ → Bool) → Matroid
matroid_over spans x elements = record { elements = elements; spans = λ a f. spans (either x a) f }

-- ---- elements

module _ (x y : ℕ → Bool) (n : ℕ) where
  pub elements-e : free_with_e x y n n ≡ true
  unfolding free_with_e
  elements-e = plus_new (below (λ f. not (either x y f)) n) n n refl

  elements-cases : (f : ℕ)
      → free_with_e x y n f ≡ true
      → ((f < n) × (x f ≡ false) × (y f ≡ false)) ⊎ (f ≡ n)
  unfolding free_with_e
  elements-cases f h = elim (plus_cases (below (λ z. not (either x y z)) n) n f h) [
    | inl k ↦
        let p = below_parts (λ z. not (either x y z)) n f k in
        let out = not-true _ p.0 in
        inl (
          p.1,
          false_from_ne_true _ (λ i. both_ways _ out (either_left x y f i)),
          false_from_ne_true _ (λ i. both_ways _ out (either_right x y f i)),
        )
    | inr e ↦ inr (sym e)
  ]

  elements-free : (f : ℕ) → f < n → x f ≡ false → y f ≡ false → free_with_e x y n f ≡ true
  unfolding free_with_e
  elements-free f low nx ny = plus_old (below (λ z. not (either x y z)) n) n f
      (below_from (λ z. not (either x y z)) n f
      (not_from_false _ (false_from_ne_true _ (λ i. elim (either_cases x y f i) [
        | inl k ↦ both_ways _ nx k
        | inr k ↦ both_ways _ ny k
      ]))) low)

  elements-small : IsBelow (free_with_e x y n) (suc n)
  elements-small f h = elim (elements-cases f h) [
    | inl i ↦ let low = i.0 in omega arith
    | inr e ↦ omega arith
  ]

-- ---- sets at a position

module _ (spans : (ℕ → Bool) → ℕ → Bool) (law : IsSpan spans) (n : ℕ) (p : Position)
    (x_range : IsBelow (contains p.x) n) (y_range : IsBelow (contains p.y) n)
    (disjoint : ShareNone p.x p.y) where
  abbrev elements : ℕ → Bool
  elements = free_with_e (contains p.x) (contains p.y) n

  abbrev matroid : Matroid
  matroid = matroid_over spans (contains p.x) elements

  no_e : (set : ℕ → Bool) → IsBelow set n → set n ≡ false
  no_e set small = false_from_ne_true _ (λ k. let low = small n k in absurd (omega arith))

  free_point : (f : ℕ) → elements f ≡ true → ((f < n) × (is_free p f ≡ true)) ⊎ (f ≡ n)
  free_point f k = elim (elements-cases (contains p.x) (contains p.y) n f k) [
    | inl i ↦ inl (i.0, and_from _ _ (not_from_false _ i.1) (not_from_false _ i.2))
    | inr e ↦ inr e
  ]

  all_free : (set : FinSet nat_cmp)
      → IsWithin (contains set) elements
      → contains set n ≡ false
      → AreFree n p set
  all_free set within out f k = elim (free_point f (within f k)) [
    | inl i ↦ i
    | inr e ↦ absurd (both_ways _ out (subst (λ (z : ℕ). contains set z ≡ true) e k))
  ]

  free_with : (side : Side) (set : FinSet nat_cmp)
      → IsWithin (contains set) elements
      → p.turn ≡ side
      → AreFreeOrE n p side set
  free_with side set within turn f k = elim (free_point f (within f k)) [
    | inl i ↦ inl i
    | inr e ↦ inr (e, turn)
  ]

  free_without : (side : Side) (set : FinSet nat_cmp) → AreFree n p set → AreFreeOrE n p side set
  free_without side set free f k = inl (free f k)

  kept_same : either (contains p.x) elements ≡ kept (suc n) p
  kept_same = same_sets _ _
      (λ z k. elim (either_cases (contains p.x) elements z k) [
        | inl i ↦ let low : z < n = x_range z i in from z (omega arith) (disjoint z i)
        | inr i ↦ elim (elements-cases (contains p.x) (contains p.y) n z i) [
          | inl q ↦ let low = q.0 in from z (omega arith) q.2
          | inr e ↦ from z (omega (arith, e))
              (subst (λ (w : ℕ). contains p.y w ≡ false) (sym e) (no_e (contains p.y) y_range))
        ]
      ])
      (λ z k.
      let q = below_parts (λ f. not (contains p.y f)) (suc n) z k in
      let out = not-true _ q.0 in
      elim (cases_Bool (contains p.x z)) [
        | inl i ↦ either_left (contains p.x) elements z i
        | inr o ↦ either_right (contains p.x) elements z (elim (cases_lt z n) [
          | inl low ↦ elements-free (contains p.x) (contains p.y) n z low o out
          | inr high ↦
              let e : z ≡ n = omega (arith, q.1) in
              subst (λ (w : ℕ). elements w ≡ true) (sym e)
              (elements-e (contains p.x) (contains p.y) n)
        ])
      ])
    where
      from : (z : ℕ) → z ≤ n → contains p.y z ≡ false → kept (suc n) p z ≡ true
      from z low out =
          below_from (λ f. not (contains p.y f)) (suc n) z (not_from_false _ out) (omega arith)

  trees : (a1 a2 : FinSet nat_cmp) (b c r : ℕ → Bool)
      → AreBases matroid b c r
      → r n ≡ true
      → contains a1 ≡ both b r
      → contains a2 ≡ both c r
      → AreFreeOrE n p X a1
      → AreFree n p a2
      → AreSpanTrees spans n p a1 a2
  trees a1 a2 b c r bases re first second free1 free2 =
      let t : IsTrees spans n (contains p.x) (contains a1) (contains a2) =
      subst₂ (λ (s t : ℕ → Bool). IsTrees spans n (contains p.x) s t) (sym first) (sym second)
      (IsTrees-reached spans law (contains p.x) elements (suc n)
      (elements-small (contains p.x) (contains p.y) n) n b c r bases.first_base bases.second_base
      bases.reached re) in
      record {
        first_free = free1;
        second_free = free2;
        apart = t.apart;
        first = t.first;
        first_joins = t.first_joins;
        second = t.second;
        second_joins = t.second_joins;
      }

  cuts : (d1 d2 : FinSet nat_cmp) (b c r : ℕ → Bool)
      → AreBases matroid b c r
      → r n ≡ false
      → contains d1 ≡ outside (outside elements r) c
      → contains d2 ≡ outside (outside elements r) b
      → AreFreeOrE n p Y d1
      → AreFree n p d2
      → AreSpanCuts spans n p d1 d2
  cuts d1 d2 b c r bases re first second free1 free2 =
      let t : IsCuts spans n (kept (suc n) p) (contains d1) (contains d2) =
      subst (λ (l : ℕ → Bool). IsCuts spans n l (contains d1) (contains d2)) kept_same
      (subst₂ (λ (s t : ℕ → Bool). IsCuts spans n (either (contains p.x) elements) s t) (sym first)
      (sym second) (IsCuts-unreached spans law (contains p.x) elements (suc n)
      (elements-small (contains p.x) (contains p.y) n) n b c r
      (λ f k. elim (elements-cases (contains p.x) (contains p.y) n f k) [
        | inl i ↦ i.1
        | inr e ↦ subst (λ (w : ℕ). contains p.x w ≡ false) (sym e) (no_e (contains p.x) x_range)
      ]) (elements-e (contains p.x) (contains p.y) n) bases.first_base bases.second_base
      bases.reached re)) in
      record {
        first_free = free1;
        second_free = free2;
        apart = t.apart;
        first = t.first;
        first_parts = t.first_parts;
        second = t.second;
        second_parts = t.second_parts
            (false_from_ne_true _ (λ k. let low = (free2 n k).0 in absurd (omega arith)));
      }

  in_tree : (a : FinSet nat_cmp) (b r : ℕ → Bool)
      → contains a ≡ both b r
      → IsWithin b elements
      → IsWithin (contains a) elements
  in_tree a b r is w z k = w z (both_parts b r z (subst (λ (s : ℕ → Bool). s z ≡ true) is k)).0

  in_cut : (d : FinSet nat_cmp) (c r : ℕ → Bool)
      → contains d ≡ outside (outside elements r) c
      → IsWithin (contains d) elements
  in_cut d c r is z k =
      (outside_parts elements r z
      (outside_parts (outside elements r) c z (subst (λ (s : ℕ → Bool). s z ≡ true) is k)).0).0

  not_in_tree : (a : FinSet nat_cmp) (b r : ℕ → Bool)
      → contains a ≡ both b r
      → b n ≡ false
      → contains a n ≡ false
  not_in_tree a b r is out = false_from_ne_true _
      (λ k. both_ways _ out (both_parts b r n (subst (λ (s : ℕ → Bool). s n ≡ true) is k)).0)

  not_in_cut : (d : FinSet nat_cmp) (c r : ℕ → Bool)
      → contains d ≡ outside (outside elements r) c
      → c n ≡ true
      → contains d n ≡ false
  not_in_cut d c r is on = false_from_ne_true _ (λ k. both_ways _
      (outside_parts (outside elements r) c n (subst (λ (s : ℕ → Bool). s n ≡ true) is k)).1 on)

  pub short_trees : (a1 a2 : FinSet nat_cmp)
      → IsTakenShort matroid n (contains a1) (contains a2)
      → AreSpanTrees spans n p a1 a2
  short_trees a1 a2 t =
      let free1 = all_free a1 (in_tree a1 t.b t.r t.first t.bases.first_base.within)
      (not_in_tree a1 t.b t.r t.first t.e_first) in
      let free2 = all_free a2 (in_tree a2 t.c t.r t.second t.bases.second_base.within)
      (not_in_tree a2 t.c t.r t.second t.e_second) in
      trees a1 a2 t.b t.c t.r t.bases t.e_reached t.first t.second (free_without X a1 free1) free2

  pub cut_cuts : (d1 d2 : FinSet nat_cmp)
      → IsTakenCut matroid n (contains d1) (contains d2)
      → AreSpanCuts spans n p d1 d2
  cut_cuts d1 d2 t =
      let free1 =
      all_free d1 (in_cut d1 t.c t.r t.first) (not_in_cut d1 t.c t.r t.first t.e_second) in
      let free2 =
      all_free d2 (in_cut d2 t.b t.r t.second) (not_in_cut d2 t.b t.r t.second t.e_first) in
      cuts d1 d2 t.b t.c t.r t.bases t.e_unreached t.first t.second (free_without Y d1 free1) free2

  pub first_trees : (a1 a2 d1 d2 : FinSet nat_cmp)
      → p.turn ≡ X
      → IsTakenFirst matroid n (contains a1) (contains a2) (contains d1) (contains d2)
      → AreSpanTrees spans n p a1 a2
  first_trees a1 a2 d1 d2 turn t = trees a1 a2 t.b t.c t.s t.wider t.e_reached t.trees t.other_trees
      (free_with X a1 (in_tree a1 t.b t.s t.trees t.bases.first_base.within) turn)
      (all_free a2 (in_tree a2 t.c t.s t.other_trees t.bases.second_base.within)
      (not_in_tree a2 t.c t.s t.other_trees t.e_second))

  pub first_cuts : (a1 a2 d1 d2 : FinSet nat_cmp)
      → p.turn ≡ Y
      → IsTakenFirst matroid n (contains a1) (contains a2) (contains d1) (contains d2)
      → AreSpanCuts spans n p d1 d2
  first_cuts a1 a2 d1 d2 turn t =
      cuts d1 d2 t.b t.c t.r t.bases t.e_unreached t.cuts t.other_cuts
      (free_with Y d1 (in_cut d1 t.c t.r t.cuts) turn)
      (all_free d2 (in_cut d2 t.b t.r t.other_cuts) (not_in_cut d2 t.b t.r t.other_cuts t.e_first))

-- ---- forced wins by the values

pub x_wins : (s : Score) → reaches X Win s ≡ true → s ≡ XWins
x_wins XWins k = refl
x_wins Draw k = absurd (both_ways _ refl k)
x_wins YWins k = absurd (both_ways _ refl k)

pub y_wins : (s : Score) → reaches Y Win s ≡ true → s ≡ YWins
y_wins YWins k = refl
y_wins Draw k = absurd (both_ways _ refl k)
y_wins XWins k = absurd (both_ways _ refl k)

module _ (spans : (ℕ → Bool) → ℕ → Bool) (law : IsSpan spans) (n : ℕ) (p : Position) where
  by_trees : (a1 a2 : FinSet nat_cmp)
      → IsPlace n p
      → AreSpanTrees spans n p a1 a2
      → value_by (span_rules spans n) p ≡ XWins
  by_trees a1 a2 place t = x_wins _
      (ForcesBy-trees spans law n (λ set. spans set n) (λ a b w h. spans_mono spans law a b n w h)
      (λ set small. refl) p a1 a2 place t)

  by_cuts : (d1 d2 : FinSet nat_cmp)
      → IsPlace n p
      → AreSpanCuts spans n p d1 d2
      → value_by (span_rules spans n) p ≡ YWins
  by_cuts d1 d2 place t = y_wins _
      (ForcesBy-cuts spans law n (λ set. spans set n) (λ a b w h. spans_mono spans law a b n w h)
      (λ set small. refl) p d1 d2 place t)

-- ---- the sets of a class, and the class

module _ (spans : (ℕ → Bool) → ℕ → Bool) (law : IsSpan spans) (n : ℕ) (x y : FinSet nat_cmp)
    (x_left y_left : ℕ) where
  abbrev x_to_move : Position
  x_to_move = record { x = x; y = y; turn = X; left = x_left }

  abbrev y_to_move : Position
  y_to_move = record { x = x; y = y; turn = Y; left = y_left }

  module _ (x_range : IsBelow (contains x) n) (y_range : IsBelow (contains y) n)
      (disjoint : ShareNone x y) where
    pub SpanSetsHold-taken : (c : Class)
        → IsTaken (matroid_over spans (contains x) (free_with_e (contains x) (contains y) n)) n c
        → SpanSetsHold spans n x_to_move y_to_move c
    SpanSetsHold-taken (Short a1 a2) t = (
      short_trees spans law n x_to_move x_range y_range disjoint a1 a2 t,
      short_trees spans law n y_to_move x_range y_range disjoint a1 a2 t,
    )
    SpanSetsHold-taken (Cut d1 d2) t = (
      cut_cuts spans law n x_to_move x_range y_range disjoint d1 d2 t,
      cut_cuts spans law n y_to_move x_range y_range disjoint d1 d2 t,
    )
    SpanSetsHold-taken (First a1 a2 d1 d2) t = (
      first_trees spans law n x_to_move x_range y_range disjoint a1 a2 d1 d2 refl t,
      first_cuts spans law n y_to_move x_range y_range disjoint a1 a2 d1 d2 refl t,
      subst (λ (s : ℕ → Bool). s n ≡ true) (sym t.trees)
          (both_from t.b t.s n t.e_first t.e_reached),
      subst (λ (s : ℕ → Bool). s n ≡ true) (sym t.cuts)
          (outside_from _ t.c n
          (outside_from _ t.r n (elements-e (contains x) (contains y) n) t.e_unreached) t.e_second),
    )

    -- the same, as the calls tell it
    pub SpanSetsHold-decided : (m : Matroid) (e : ℕ) (c : Class)
        → m ≡ matroid_over spans (contains x) (free_with_e (contains x) (contains y) n)
        → e ≡ n
        → IsTaken m e c
        → SpanSetsHold spans n x_to_move y_to_move c
    SpanSetsHold-decided m e c same last t =
        SpanSetsHold-taken c (subst₂ (λ (q : Matroid) (k : ℕ). IsTaken q k c) same last t)

  -- by such sets the side that they are for wins
  pub SpanSetsHold-class : (c : Class)
      → IsPlace n x_to_move
      → IsPlace n y_to_move
      → SpanSetsHold spans n x_to_move y_to_move c
      → class_by (value_by (span_rules spans n) x_to_move) (value_by (span_rules spans n) y_to_move)
      ≡ Some (named c)
  SpanSetsHold-class (Short a1 a2) px py s = rw (
    by_trees spans law n x_to_move a1 a2 px s.0,
    by_trees spans law n y_to_move a1 a2 py s.1,
  ) refl
  SpanSetsHold-class (Cut d1 d2) px py s = rw (
    by_cuts spans law n x_to_move d1 d2 px s.0,
    by_cuts spans law n y_to_move d1 d2 py s.1,
  ) refl
  SpanSetsHold-class (First a1 a2 d1 d2) px py s = rw (
    by_trees spans law n x_to_move a1 a2 px s.0,
    by_cuts spans law n y_to_move d1 d2 py s.1,
  ) refl
