-- Marks that are points of a game, by the words of their sets.
use Rattle.std.proofs.Common.{◌≡◌, ◌∙◌, ℕ, ◌+◌, ◌<◌, ◌≤◌, List, get_or, bit_and, bit_or}
use Rattle.std.proofs.Common.{sym, ap₂, subst, subst₂, inl, inr, arith, lt-ltb, w64}
use Rattle.std.specs.Int.{bit_not}
use Rattle.std.proofs.lemmas.Nat.{le_or_l, le_or_r}
use Rattle.pg_check.proofs.Common.{AreBelow, AreWithin, FinSet, Game, cases_eq, ltb-true}
use Rattle.pg_check.proofs.Common.{nat_cmp, point_count, words_of}
use Rattle.pg_check.specs.Tester.{AreInside, ArePointsOf}
use Rattle.pg_potential.proofs.FlatMarks.{fit-set}
use Rattle.pg_potential.proofs.RowsWithin.{members-words, within-from_rows, row-from_within}

-- a word has no bit where both parts have none
or-zero : (a b : ℕ) → bit_or a b ≡ 0 → (a ≡ 0) × (b ≡ 0)
or-zero a b e = (
  (let le = le_or_l a b in omega (arith, le, e)),
  (let le = le_or_r a b in omega (arith, le, e)),
)

zero-or : (a b : ℕ) → a ≡ 0 → b ≡ 0 → bit_or a b ≡ 0
zero-or a b ea eb = ap₂ bit_or ea eb

module _ (first second inside : List ℕ) (i before : ℕ) where
  abbrev outside : ℕ
  outside = bit_or before
      (bit_or (bit_and (get_or first i 0) (bit_not w64 (get_or inside i 0)))
      (bit_and (get_or second i 0) (bit_not w64 (get_or inside i 0))))

  -- one row more
  pub inside-more : (before ≡ 0 → AreInside first second inside i)
      → outside ≡ 0
      → AreInside first second inside (i + 1)
  inside-more each none j lt =
      let parts = or-zero _ _ none in
      elim (cases_eq j i) [
        | inl e ↦ rw e (or-zero _ _ parts.1)
        | inr ne ↦ each parts.0 j (omega (arith, lt, ne))
      ]

  pub outside-more : (AreInside first second inside i → before ≡ 0)
      → AreInside first second inside (i + 1)
      → outside ≡ 0
  outside-more none each =
      let here = each i (omega arith) in
      zero-or _ _ (none (λ j lt. each j (omega (arith, lt)))) (zero-or _ _ here.0 here.1)

-- sets without a bit outside of the game's points are of its points
module _ (g : Game) (points x y : FinSet nat_cmp) (are : ArePointsOf points g)
    (few : point_count g ≤ 1024) (x_small : AreBelow x 1024) (y_small : AreBelow y 1024) where
  points_small : AreBelow points 1024
  points_small v on =
      let lt : v < point_count g = ltb-true v (point_count g) (sym (are v) ∙ on) in
      omega (arith, lt, few)

  within-points : (s : FinSet nat_cmp)
      → AreBelow s 1024
      → ((i : ℕ) → i < 16
      → bit_and (get_or (words_of s) i 0) (bit_not w64 (get_or (words_of points) i 0)) ≡ 0)
      → AreBelow s (point_count g)
  within-points s small rows v on = ltb-true v (point_count g)
      (sym (are v)
      ∙ subst₂ AreWithin (members-words s 16 (omega arith) small)
      (members-words points 16 (omega arith) points_small)
      (within-from_rows (words_of s) (words_of points) 16 (fit-set s) (fit-set points) rows) v on)

  rows-within : (s : FinSet nat_cmp)
      → AreBelow s 1024
      → AreBelow s (point_count g)
      → (i : ℕ)
      → i < 16
      → bit_and (get_or (words_of s) i 0) (bit_not w64 (get_or (words_of points) i 0)) ≡ 0
  rows-within s small below i lt =
      row-from_within (words_of s) (words_of points) 16 (fit-set s) (fit-set points)
      (subst₂ AreWithin (sym (members-words s 16 (omega arith) small))
      (sym (members-words points 16 (omega arith) points_small))
      (λ v on. are v ∙ lt-ltb v (point_count g) (below v on))) i lt

  pub points-inside : AreInside (words_of x) (words_of y) (words_of points) 16
      → AreBelow x (point_count g) × AreBelow y (point_count g)
  points-inside rows = (
    within-points x x_small (λ i lt. (rows i lt).0),
    within-points y y_small (λ i lt. (rows i lt).1),
  )

  pub inside-points : AreBelow x (point_count g) × AreBelow y (point_count g)
      → AreInside (words_of x) (words_of y) (words_of points) 16
  inside-points below i lt =
      (rows-within x x_small below.0 i lt, rows-within y y_small below.1 i lt)

-- the same rows under other names
pub inside-same : (a b c a' b' c' : List ℕ)
    → a ≡ a'
    → b ≡ b'
    → c ≡ c'
    → AreInside a b c 16
    → AreInside a' b' c' 16
inside-same a b c a' b' c' ea eb ec h = subst (λ (l : List ℕ). AreInside a' b' l 16) ec
    (subst (λ (l : List ℕ). AreInside a' l c 16) eb
    (subst (λ (l : List ℕ). AreInside l b c 16) ea h))
