-- Grounds of vectors: bases after a swap, and bases that were grown.
use Rattle.std.proofs.Common.{◌≡◌, ℕ, ◌+◌, ◌<◌, Bool, true, false, not, refl, inl, inr, sym, ap}
use Rattle.std.proofs.Common.{◌∙◌, subst, subst₂, arith, bit_xor, List, [], ◌∷◌, ◌++◌, length}
use Rattle.std.proofs.Common.{get_or}
use Rattle.pg_gf2.proofs.Common.{cases_Bool, both_ways, false_from_ne_true, cond-true, cond-false}
use Rattle.pg_gf2.proofs.Common.{length-append, xor_zero_r, xor_assoc, xor_comm, contains, plus}
use Rattle.pg_gf2.proofs.Common.{minus, either, below, outside, IsBelow, minus_parts, minus_from}
use Rattle.pg_gf2.proofs.Common.{plus_cases, plus_old, plus_new, either_left, either_right}
use Rattle.pg_gf2.proofs.Common.{either_cases, outside_parts, below_parts, IsBase, swapped}
use Rattle.pg_gf2.proofs.Common.{free_with_e}
use Rattle.pg_gf2.specs.declared.row.Row.{Row}
use Rattle.pg_gf2.specs.Vectors.{total, is_sum, differ, vector_at, spans_over}
use Rattle.pg_gf2.specs.Rows.{reduced, IsRow, IsTold, IsEliminated, IsTurned, AreTurned}
use Rattle.pg_gf2.specs.SumLemmas.{total_differ, sum_both}
use Rattle.pg_gf2.proofs.EliminationLemmas.{total_plus, reduces, reduced-turned}

-- ---- elements

pub elements_range : (x y : ℕ → Bool) (vectors : List ℕ) (target : ℕ)
    → IsBelow (free_with_e x y (length vectors)) (length (vectors ++ (target ∷ [])))
unfolding free_with_e
elements_range x y vectors target z h =
    let count : length (vectors ++ (target ∷ [])) ≡ length vectors + 1 =
    length-append vectors (target ∷ []) in
    elim (plus_cases (below (λ f. not (either x y f)) (length vectors)) (length vectors) z h) [
      | inl k ↦
          let low : z < length vectors =
          (below_parts (λ f. not (either x y f)) (length vectors) z k).1 in
          omega arith
      | inr e ↦ omega arith
    ]

-- ---- a base that nothing is in yet

pub eliminated_start : (v : ℕ → ℕ) (n : ℕ) (x base : ℕ → Bool) (rows : List Row)
    → ((z : ℕ) → base z ≡ false)
    → IsEliminated v n x (λ _. false) x rows
    → IsEliminated v n x base (either x base) rows
eliminated_start v n x base rows none i = record {
  told = λ k d l.
      let r : IsRow v n x (λ _. false) (get_or rows k d) = i.told k d l in
      record { within = λ z h. absurd (both_ways _ refl (r.within z h)); sums = r.sums };
  gone = λ g h. elim (either_cases x base g h) [
    | inl k ↦ i.gone g k
    | inr k ↦ absurd (both_ways _ (none g) k)
  ];
}

-- ---- swaps

module _ (vectors : List ℕ) (x elements base : ℕ → Bool) (rows : List Row) where
  abbrev at : ℕ → ℕ
  at = vector_at vectors

  abbrev many : ℕ
  many = length vectors

  -- nothing is left of an element
  pub told_element : (f left : ℕ) (members : ℕ → Bool)
      → IsEliminated at many x base (either x base) rows
      → IsBase (spans_over vectors x) elements base
      → elements f ≡ true
      → left ≡ reduced rows (at f)
      → IsTold at many x base (at f) left members
      → IsTold at many x base (at f) 0 members
  told_element f left members i is ef same t =
      subst (λ (k : ℕ). IsTold at many x base (at f) k members)
      (same ∙ reduces vectors x base rows f i (is.spanning f ef)) t

  sum_turned : (value m c f : ℕ)
      → bit_xor (bit_xor value m) (bit_xor (bit_xor f 0) c)
      ≡ bit_xor value (bit_xor m (bit_xor c f))
  sum_turned value m c f =
      ap (λ (z : ℕ). bit_xor (bit_xor value m) (bit_xor z c)) (xor_zero_r f)
      ∙ (ap (bit_xor (bit_xor value m)) (xor_comm f c) ∙ xor_assoc value m (bit_xor c f))

  turned_row : (out into : ℕ) (members changed : ℕ → Bool) (old new : Row)
      → base into ≡ false
      → into < length vectors
      → members out ≡ true
      → changed ≡ plus members into
      → IsTold at many x base (at into) 0 members
      → IsRow at many x base old
      → IsTurned out changed old new
      → IsRow at many x (swapped base out into) new
  unfolding swapped differ
  turned_row out into members changed old new absent low on same t i turned =
      elim (cases_Bool (contains old.members out)) [
        | inr o ↦
            let is : contains new.members ≡ contains old.members = turned.members
            ∙ cond-false (contains old.members out) (differ (contains old.members) changed)
            (contains old.members) o in
            record {
              within = λ z h.
                  let k : contains old.members z ≡ true =
                  subst (λ (s : ℕ → Bool). s z ≡ true) is h in
                  plus_old (minus base out) into z
                  (minus_from base out z (i.within z k) (λ e. both_ways _ o
                  (subst (λ (j : ℕ). contains old.members j ≡ true) (sym e) k)));
              sums = subst₂
                  (λ (value : ℕ) (s : ℕ → Bool). is_sum at x many (bit_xor value (total at s many))
                  ≡ true) (sym turned.value) (sym is) i.sums;
            }
        | inl k ↦
            let is : contains new.members ≡ differ (contains old.members) changed = turned.members
            ∙ cond-true (contains old.members out) (differ (contains old.members) changed)
            (contains old.members) k in
            let sum : bit_xor (bit_xor old.value (total at (contains old.members) many))
            (bit_xor (bit_xor (at into) 0) (total at members many)) ≡ bit_xor old.value
            (total at (differ (contains old.members) changed) many) = sum_turned old.value
            (total at (contains old.members) many) (total at members many) (at into)
            ∙ ap (bit_xor old.value) (sym (total_differ at (contains old.members) changed many
            ∙ ap (bit_xor (total at (contains old.members) many))
            (ap (λ (s : ℕ → Bool). total at s many) same
            ∙ total_plus at many members into
            (false_from_ne_true _ (λ h. both_ways _ absent (t.within into h))) low))) in
            record {
              within = λ z h. moved z k (subst (λ (s : ℕ → Bool). s z ≡ true) is h);
              sums = subst₂
                  (λ (value : ℕ) (s : ℕ → Bool). is_sum at x many (bit_xor value (total at s many))
                  ≡ true) (sym turned.value) (sym is)
                  (subst (λ (w : ℕ). is_sum at x many w ≡ true) sum
                  (sum_both at x many _ _ i.sums t.sums));
            }
      ] where
        in_changed : (z : ℕ) → members z ≡ true → changed z ≡ true
        in_changed z h = subst (λ (s : ℕ → Bool). s z ≡ true) (sym same) (plus_old members into z h)

        moved : (z : ℕ)
            → contains old.members out ≡ true
            → differ (contains old.members) changed z ≡ true
            → plus (minus base out) into z ≡ true
        moved z k h = elim (either_cases (outside (contains old.members) changed)
            (outside changed (contains old.members)) z h) [
              | inl m ↦
                  let p : (contains old.members z ≡ true) × (changed z ≡ false) =
                  outside_parts (contains old.members) changed z m in
                  plus_old (minus base out) into z
                  (minus_from base out z (i.within z p.0) (λ e. both_ways _ p.1
                  (subst (λ (j : ℕ). changed j ≡ true) e (in_changed out on))))
              | inr m ↦
                  let p : (changed z ≡ true) × (contains old.members z ≡ false) =
                  outside_parts changed (contains old.members) z m in
                  elim (plus_cases members into z (subst (λ (s : ℕ → Bool). s z ≡ true) same p.0)) [
                    | inl q ↦ plus_old (minus base out) into z
                        (minus_from base out z (t.within z q) (λ e. both_ways _ p.1
                        (subst (λ (j : ℕ). contains old.members j ≡ true) e k)))
                    | inr e ↦ plus_new (minus base out) into z e
                  ]
            ]

  pub eliminated_swapped : (out into : ℕ) (members changed : ℕ → Bool) (new : List Row)
      → elements into ≡ true
      → base into ≡ false
      → into < length vectors
      → members out ≡ true
      → changed ≡ plus members into
      → IsBase (spans_over vectors x) elements base
      → IsTold at many x base (at into) 0 members
      → IsEliminated at many x base (either x base) rows
      → AreTurned out changed rows new
      → IsEliminated at many x (swapped base out into) (either x (swapped base out into)) new
  unfolding swapped
  eliminated_swapped out into members changed new el absent low on same is t i a = record {
    told = λ k d l.
        let short : k < length rows = omega (arith, a.count, l) in
        turned_row out into members changed (get_or rows k d) (get_or new k d) absent low on same t
        (i.told k d short) (a.each k d short);
    gone = λ g h. reduced-turned out changed rows new (at g) a
        ∙ elim (either_cases x (plus (minus base out) into) g h) [
          | inl m ↦ i.gone g (either_left x base g m)
          | inr m ↦ elim (plus_cases (minus base out) into g m) [
            | inl q ↦ i.gone g (either_right x base g (minus_parts base out g q).0)
            | inr e ↦ subst (λ (j : ℕ). reduced rows (at j) ≡ 0) e
                (reduces vectors x base rows into i (is.spanning into el))
          ]
        ];
  }
