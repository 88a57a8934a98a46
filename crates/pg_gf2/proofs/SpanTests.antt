-- What an elimination tells of what vectors span, and of bridges.
use Rattle.std.proofs.Common.{◌≡◌, ◌≢◌, ℕ, Bool, true, false, List, length, inl, inr, refl, ◌∙◌}
use Rattle.std.proofs.Common.{subst}
use Rattle.pg_gf2.proofs.Common.{both_ways, cases_Bool, false_from_ne_true, below, either, minus}
use Rattle.pg_gf2.proofs.Common.{outside, IsWithin, IsBelow, either_cases, either_left}
use Rattle.pg_gf2.proofs.Common.{either_right, minus_from, minus_parts, outside_from, outside_parts}
use Rattle.pg_gf2.proofs.Common.{below_from, below_parts, IsSpan, spans_mono, IsGrown}
use Rattle.pg_gf2.specs.declared.row.Row.{Row}
use Rattle.pg_gf2.specs.Vectors.{vector_at, vector_spans, is_sum}
use Rattle.pg_gf2.specs.Rows.{IsTold, IsEliminated, reduced}
use Rattle.pg_gf2.specs.SumLemmas.{sum_more}
use Rattle.pg_gf2.proofs.RowLemmas.{reduced_sum}
use Rattle.pg_gf2.proofs.EliminationLemmas.{told_spans}

-- ---- what the rows of a set leave of a vector

module _ (vectors : List ℕ) (set : ℕ → Bool) (k left : ℕ) where
  abbrev at : ℕ → ℕ
  at = vector_at vectors

  abbrev many : ℕ
  many = length vectors

  pub left_zero : (members : ℕ → Bool)
      → IsTold at many set (λ _. false) (at k) left members
      → left ≡ 0
      → vector_spans vectors set k ≡ true
  left_zero members told e =
      let all : is_sum at (either set members) many (at k) ≡ true =
      told_spans at many set (λ _. false) members (at k)
      (subst (λ (t : ℕ). IsTold at many set (λ _. false) (at k) t members) e told) in
      sum_more at (either set members) set many (at k) (λ z h. elim (either_cases set members z h) [
        | inl q ↦ q
        | inr q ↦ absurd (both_ways _ refl (told.within z q))
      ]) all

  pub left_some : (rows : List Row)
      → IsEliminated at many set (λ _. false) set rows
      → left ≡ reduced rows (at k)
      → left ≢ 0
      → vector_spans vectors set k ≡ false
  left_some rows i same d =
      false_from_ne_true _ (λ s. d (same ∙ reduced_sum rows at set many (at k) i.gone s))

-- ---- bridges of a set: those of some that were grown over the rest

module _ (spans : (ℕ → Bool) → ℕ → Bool) (law : IsSpan spans) (set bridges none base : ℕ → Bool)
    (n : ℕ) (empty : (z : ℕ) → none z ≡ false)
    (grown : IsGrown (λ a f. spans (either (outside set bridges) a) f) none
    (below bridges n) base) where
  pub bridges_sound : IsWithin bridges base
      → (f : ℕ) → bridges f ≡ true
      → spans (minus set f) f ≡ false
  bridges_sound all f h = false_from_ne_true _ (λ s. both_ways _ (grown.free f (all f h))
      (spans_mono spans law (minus set f) (either (outside set bridges) (minus base f)) f wide s))
    where
      wide : IsWithin (minus set f) (either (outside set bridges) (minus base f))
      wide z k =
          let p = minus_parts set f z k in
          elim (cases_Bool (bridges z)) [
            | inl b ↦ either_right (outside set bridges) (minus base f) z
                (minus_from base f z (all z b) p.1)
            | inr o ↦ either_left (outside set bridges) (minus base f) z
                (outside_from set bridges z p.0 o)
          ]

  pub bridges_complete : IsWithin bridges set
      → IsBelow bridges n
      → ((f : ℕ) → bridges f ≡ true → spans (minus set f) f ≡ false)
      → IsWithin bridges base
  bridges_complete inside small each f h = elim (cases_Bool (base f)) [
    | inl b ↦ b
    | inr o ↦
        let spanned = grown.spanning f (below_from bridges n f h (small f h)) in
        absurd
        (both_ways _ (each f h)
        (spans_mono spans law (either (outside set bridges) base) (minus set f) f
        (narrow f h o) spanned))
  ] where
    narrow : (f : ℕ)
        → bridges f ≡ true
        → base f ≡ false
        → IsWithin (either (outside set bridges) base) (minus set f)
    narrow f h o z k = elim (either_cases (outside set bridges) base z k) [
      | inl q ↦
          let p = outside_parts set bridges z q in
          minus_from set f z p.0 (λ e. both_ways _ p.1 (subst (λ (w : ℕ). bridges w ≡ true) e h))
      | inr q ↦ elim (either_cases none (below bridges n) z (grown.within z q)) [
        | inl m ↦ absurd (both_ways _ (empty z) m)
        | inr m ↦ minus_from set f z (inside z (below_parts bridges n z m).0)
            (λ e. both_ways _ (subst (λ (w : ℕ). base w ≡ false) e o) q)
      ]
    ]
