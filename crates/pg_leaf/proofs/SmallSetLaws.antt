-- Sets of points below 256, and the words that they are kept in.
use Rattle.std.proofs.Common.{◌≡◌, ℕ, zero, suc, ◌+◌, ◌*◌, ◌/◌, ◌%◌, ◌^◌, ◌<◌, ◌≤◌, true}
use Rattle.std.proofs.Common.{false, ◌&&◌, ◌||◌, List, [], ◌∷◌, get_or, ltb, eqb, refl, sym}
use Rattle.std.proofs.Common.{ap, ◌∙◌, subst, inl, inr, arith, bit_and, nat_eq}
use Rattle.std.proofs.Common.{le-ltb, lt-ltb}
use Rattle.std.proofs.lemmas.Bool.{and_right, cases_eq, cases_lt}
use Rattle.std.proofs.lemmas.Nat.Bits.{bit_at-zero}
use Rattle.pg_base.specs.Prelude.{bit_at, contains-empty, empty}
use Rattle.std.proofs.lemmas.Bool.Decides.{nat_tests}
use Rattle.std.proofs.lemmas.List.FromFn.{get_or-map-range_with_len}
use Rattle.std.specs.FinSet.{FinSet, contains, insert}
use Rattle.std.specs.Ordering.{nat_cmp}
use Rattle.pg_base.specs.Points.{AreBelow}
use Rattle.pg_base.specs.Words.{has_bit, members_below, word_of, words_of}
use Rattle.pg_base.specs.WordLemmas.{has_bit-shift, in_insert, in_members_below, members-of_words}
use Rattle.pg_base.specs.WordLemmas.{same_points, word_below-lt}
use Rattle.pg_game.specs.declared.bounds.TheConstants.{MAX_POINTS}
use Rattle.pg_leaf.specs.SmallSets.{AreFourWords}

-- the first four numbers of a list
abbrev pub first_four : List ℕ → List ℕ
first_four ws = get_or ws 0 0 ∷ (get_or ws 1 0 ∷ (get_or ws 2 0 ∷ (get_or ws 3 0 ∷ [])))

first-four : (ws : List ℕ) (i : ℕ) → i < 4 → get_or (first_four ws) i 0 ≡ get_or ws i 0
first-four ws zero h = refl
first-four ws (suc zero) h = refl
first-four ws (suc (suc zero)) h = refl
first-four ws (suc (suc (suc zero))) h = refl
first-four ws (suc (suc (suc (suc i)))) h = absurd (omega arith)

word-fits : (s : FinSet nat_cmp) (i : ℕ) → i < 16 → get_or (words_of s) i 0 < 2 ^ 64
unfolding words_of word_of
word-fits s i lt = subst (λ (w : ℕ). w < 2 ^ 64)
    (sym (get_or-map-range_with_len (word_of s) 0 16 i i 0 lt (omega arith)))
    (word_below-lt (λ j. contains s (64 * i + j)) 64)

-- the first four words of a set
pub four-fit : (s : FinSet nat_cmp) (ws : List ℕ) → ws ≡ words_of s → AreFourWords (first_four ws)
four-fit s ws is = record {
  count = refl;
  fit = λ i. elim (cases_lt i 4) [
    | inl lt ↦ subst (λ (w : ℕ). w < 2 ^ 64)
        (sym (first-four ws i lt ∙ ap (λ vs. get_or vs i 0) is))
        (word-fits s i (omega (arith, lt)))
    | inr ge ↦ beyond ws i ge
  ];
}
  where
    beyond : (vs : List ℕ) (i : ℕ) → 4 ≤ i → get_or (first_four vs) i 0 < 2 ^ 64
    beyond vs zero h = absurd (omega arith)
    beyond vs (suc zero) h = absurd (omega arith)
    beyond vs (suc (suc zero)) h = absurd (omega arith)
    beyond vs (suc (suc (suc zero))) h = absurd (omega arith)
    beyond vs (suc (suc (suc (suc i)))) h = omega arith

pub four-members : (s : FinSet nat_cmp) (ws : List ℕ)
    → ws ≡ words_of s
    → AreBelow s MAX_POINTS
    → members_below (first_four ws) MAX_POINTS ≡ s
unfolding words_of
four-members s ws is below = members-of_words s (first_four ws) 4 below
    (λ i lt. first-four ws i lt ∙ ap (λ vs. get_or vs i 0) is
    ∙ get_or-map-range_with_len (word_of s) 0 16 i i 0 (omega (arith, lt)) (omega arith))

pub has-small : (ws : List ℕ) (v : ℕ)
    → v < MAX_POINTS
    → nat_eq (bit_and (get_or ws (v / 64) 0 / 2 ^ (v % 64)) 1) 1
    ≡ contains (members_below ws MAX_POINTS) v
has-small ws v lt = has_bit-shift ws v
    ∙ sym
    (in_members_below ws MAX_POINTS v ∙ ap (λ b. b && has_bit ws v) (lt-ltb v MAX_POINTS lt))

-- ---- the members of a set up to a number

module _ (s : FinSet nat_cmp) where
  -- the members of the other set are those below the number
  abbrev pub AreThose : ℕ → FinSet nat_cmp → Type 0
  AreThose n points = (q : ℕ) → contains points q ≡ (ltb q n && contains s q)

  pub those-taken : (n : ℕ) (points : FinSet nat_cmp)
      → contains s n ≡ true
      → AreThose n points
      → AreThose (n + 1) (insert points n)
  those-taken n points on h q = in_insert points n q ∙ ap (λ b. eqb q n || b) (h q) ∙ last
    where
      last : (eqb q n || (ltb q n && contains s q)) ≡ (ltb q (n + 1) && contains s q)
      last = elim (cases_eq q n) [
        | inl e ↦ rw e (rw on (grind (arith, nat_tests)))
        | inr ne ↦ grind (arith, nat_tests)
      ]

  pub those-passed : (n : ℕ) (points : FinSet nat_cmp)
      → contains s n ≡ false
      → AreThose n points
      → AreThose (n + 1) points
  those-passed n points off h q = h q ∙ last
    where
      last : (ltb q n && contains s q) ≡ (ltb q (n + 1) && contains s q)
      last = elim (cases_eq q n) [
        | inl e ↦ rw e (rw off (grind (arith, nat_tests)))
        | inr ne ↦ grind (arith, nat_tests)
      ]

  -- a row of 64 whose word is 0 has no member
  pub row-passed : (ws : List ℕ) (row : ℕ) (points : FinSet nat_cmp)
      → s ≡ members_below ws MAX_POINTS
      → get_or ws row 0 ≡ 0
      → AreThose (64 * row) points
      → AreThose (64 * (row + 1)) points
  unfolding has_bit
  row-passed ws row points is none h q = h q ∙ elim (cases_lt q (64 * row)) [
    | inl lt ↦ ap (λ b. b && contains s q)
        (lt-ltb q (64 * row) lt ∙ sym (lt-ltb q (64 * (row + 1)) (omega (arith, lt))))
    | inr ge ↦ elim (cases_lt q (64 * (row + 1))) [
      | inl lt ↦
          let here : q / 64 ≡ row = omega (arith, ge, lt) in
          let off : contains s q ≡ false = ap (λ t. contains t q) is
          ∙ in_members_below ws MAX_POINTS q
          ∙ ap (λ w. ltb q MAX_POINTS && nat_eq (bit_at w (q % 64)) 1)
          (ap (λ i. get_or ws i 0) here ∙ none)
          ∙ ap (λ n. ltb q MAX_POINTS && nat_eq n 1) (bit_at-zero (q % 64))
          ∙ and_right _ _ refl in
          ap (λ b. ltb q (64 * row) && b) off
          ∙ and_right _ _ refl
          ∙ sym (ap (λ b. ltb q (64 * (row + 1)) && b) off ∙ and_right _ _ refl)
      | inr beyond ↦ ap (λ b. b && contains s q)
          (le-ltb q (64 * row) ge ∙ sym (le-ltb q (64 * (row + 1)) beyond))
    ]
  ]

  pub those-none : AreThose 0 empty
  those-none q = contains-empty nat_cmp q
      ∙ ap (λ b. b && contains s q) (sym (le-ltb q 0 (omega arith)))

  -- all points of a set of words are below 256
  pub those-all : (ws : List ℕ) (points : FinSet nat_cmp)
      → s ≡ members_below ws MAX_POINTS
      → AreThose 256 points
      → points ≡ s
  those-all ws points is h = same_points points s (λ q. h q ∙ elim (cases_lt q 256) [
    | inl lt ↦ ap (λ b. b && contains s q) (lt-ltb q 256 lt)
    | inr ge ↦
        let off : contains s q ≡ false = ap (λ t. contains t q) is
        ∙ in_members_below ws MAX_POINTS q
        ∙ ap (λ b. b && has_bit ws q) (le-ltb q 256 ge) in
        ap (λ b. b && contains s q) (le-ltb q 256 ge) ∙ sym off
  ])
