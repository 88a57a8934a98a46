-- Sets in rows of words: one is within another where each word has all bits of the other's.
use Rattle.std.proofs.Common.{Bool, true, false, not, ◌&&◌, ◌≡◌, ◌∙◌, ℕ, ◌+◌, ◌-◌, ◌*◌, ◌/◌, ◌%◌}
use Rattle.std.proofs.Common.{◌^◌, ◌<◌, ◌≤◌, List, get_or, length, take, drop, nat_eq, refl, sym}
use Rattle.std.proofs.Common.{ap, subst, inl, inr, arith, lt-ltb, le-ltb, w64}
use Rattle.pg_potential.proofs.Common.{cases_lt, both_ways, length-drop, get_or-drop, take_all}
use Rattle.pg_potential.proofs.Common.{FinSet}
use Rattle.pg_potential.proofs.Common.{contains, nat_cmp, AreBelow, AreWithin, has_bit}
use Rattle.pg_potential.proofs.Common.{members_below}
use Rattle.pg_potential.proofs.Common.{words_of, in_members_below, has_bit-at, members-of_words}
use Rattle.pg_potential.proofs.Common.{bit_test, bit_test-and, bit_test-not, zero-from_tests}
use Rattle.pg_potential.proofs.Common.{cleared}
use Rattle.std.proofs.lemmas.Nat.{and_le_l}
use Rattle.std.proofs.lemmas.Nat.Bits.{bit_at-zero}
use Rattle.std.specs.Int.{bit_not}
use Rattle.pg_potential.specs.Marks.{set_at, AreFlat}
use Rattle.pg_potential.specs.declared.marks.Marks.{Marks}
use Rattle.pg_base.proofs.PointSetLaws.{insert-old}
use Rattle.pg_base.specs.WordLemmas.{AreWords-with, members-with, with_bit, words_of-members}
use Rattle.pg_base.specs.Words.{AreWords}
use Rattle.pg_base.specs.declared.limits.TheConstants.{MAX_MEMBERS}
use Rattle.pg_potential.proofs.Common.{insert}
use Rattle.pg_potential.proofs.FlatMarks.{Fit, fit-set, length-words, word-at, row-within}

-- a bit of the first that isn't in the second
bit_test-cleared : (a b j : ℕ)
    → b < 2 ^ 64
    → j < 64
    → bit_test (cleared a b) j ≡ (bit_test a j && not (bit_test b j))
bit_test-cleared a b j fit column =
    bit_test-and a (bit_not w64 b) j ∙ ap (λ t. bit_test a j && t) (bit_test-not b j fit column)

-- a place of a row is a member where its bit is set
pub member-at : (ws : List ℕ) (rows i j : ℕ)
    → i < rows
    → j < 64
    → contains (members_below ws (64 * rows)) (64 * i + j) ≡ bit_test (get_or ws i 0) j
member-at ws rows i j row column = in_members_below ws (64 * rows) (64 * i + j)
    ∙ ap (λ b. b && has_bit ws (64 * i + j))
    (lt-ltb (64 * i + j) (64 * rows) (omega (arith, row, column)))
    ∙ has_bit-at ws i j column

-- members are below the rows' end
pub member-below : (ws : List ℕ) (rows v : ℕ)
    → contains (members_below ws (64 * rows)) v ≡ true
    → v < 64 * rows
member-below ws rows v on = elim (cases_lt v (64 * rows)) [
  | inl lt ↦ lt
  | inr ge ↦ absurd (both_ways _
      (in_members_below ws (64 * rows) v ∙ ap (λ b. b && has_bit ws v) (le-ltb v (64 * rows) ge))
      on)
]

on_both : (p q : Bool) → (p && not q) ≡ false → p ≡ true → q ≡ true
on_both true true h on = refl
on_both true false h on = cc
on_both false q h on = cc

off_both : (p q : Bool) → (p ≡ true → q ≡ true) → (p && not q) ≡ false
off_both true q h = rw (h refl) refl
off_both false q h = refl

module _ (ws us : List ℕ) (rows : ℕ) (mine : Fit ws) (theirs : Fit us) where
  pub within-from_rows : ((i : ℕ) → i < rows → cleared (get_or ws i 0) (get_or us i 0) ≡ 0)
      → AreWithin (members_below ws (64 * rows)) (members_below us (64 * rows))
  within-from_rows clear v on =
      let lt = member-below ws rows v on in
      let place : 64 * (v / 64) + v % 64 ≡ v = omega arith in
      let row : v / 64 < rows = omega (arith, lt) in
      let column : v % 64 < 64 = omega arith in
      let off : bit_test (cleared (get_or ws (v / 64) 0) (get_or us (v / 64) 0)) (v % 64) ≡ false =
      ap (λ w. bit_test w (v % 64)) (clear (v / 64) row)
      ∙ ap (λ n. nat_eq n 1) (bit_at-zero (v % 64)) in
      let set : bit_test (get_or ws (v / 64) 0) (v % 64) ≡ true =
      sym (member-at ws rows (v / 64) (v % 64) row column)
      ∙ ap (contains (members_below ws (64 * rows))) place
      ∙ on in
      ap (contains (members_below us (64 * rows))) (sym place)
      ∙ member-at us rows (v / 64) (v % 64) row column
      ∙ on_both _ _
      (sym (bit_test-cleared (get_or ws (v / 64) 0) (get_or us (v / 64) 0) (v % 64)
      (theirs (v / 64)) column)
      ∙ off) set

  pub row-from_within : AreWithin (members_below ws (64 * rows)) (members_below us (64 * rows))
      → (i : ℕ) → i < rows
      → cleared (get_or ws i 0) (get_or us i 0) ≡ 0
  row-from_within within i row = zero-from_tests _ (omega (
    arith,
    and_le_l (get_or ws i 0) (bit_not w64 (get_or us i 0)),
    mine i,
  )) (λ j column. bit_test-cleared (get_or ws i 0) (get_or us i 0) j (theirs i) column
      ∙ off_both _ _ (λ on. sym (member-at us rows i j row column)
      ∙ within (64 * i + j) (member-at ws rows i j row column ∙ on)))

-- the words of a set stand for it
pub members-words : (s : FinSet nat_cmp) (rows : ℕ)
    → rows ≤ 16
    → AreBelow s (64 * rows)
    → members_below (words_of s) (64 * rows) ≡ s
members-words s rows few below =
    members-of_words s (words_of s) rows below (λ i lt. word-at s i (omega (arith, lt, few)))

-- the words of a set with one point more
pub words-with : (s : FinSet nat_cmp) (v width : ℕ)
    → width ≤ 16
    → v < MAX_MEMBERS
    → AreBelow (insert s v) (64 * width)
    → with_bit (words_of s) v ≡ words_of (insert s v)
words-with s v width few small below =
    let are : AreWords (words_of s) = record { count = length-words s; fit = fit-set s } in
    let all : AreBelow s (64 * 16) = λ q on.
    let lt = below q (insert-old s v q on) in omega (arith, lt, few) in
    sym (words_of-members (with_bit (words_of s) v) (AreWords-with (words_of s) v are small))
    ∙ ap words_of (members-with (words_of s) v are small
    ∙ ap (λ (t : FinSet nat_cmp). insert t v) (members-words s 16 (omega arith) all))

-- all words from the beginning of a row on stand for its set
module _ (m : Marks) (row : ℕ) (all : List ℕ) (flat : AreFlat m)
    (inside : row < 2 * length m.turns.items) (is : all ≡ m.words.items) where
  abbrev rest : List ℕ
  rest = take (length all - m.width * row) (drop (m.width * row) all)

  rest-is : rest ≡ drop (m.width * row) m.words.items
  rest-is = take_all (length all - m.width * row) (drop (m.width * row) all)
      (let n = length-drop (m.width * row) all in omega (arith, n))
      ∙ ap (drop (m.width * row)) is

  pub rest-set : members_below rest (64 * m.width) ≡ set_at m.words.items m.width row
  rest-set = ap (λ (ws : List ℕ). members_below ws (64 * m.width)) rest-is

  pub rest-long : m.width ≤ length rest
  rest-long =
      let long =
      ap (λ (ws : List ℕ). length ws) rest-is ∙ length-drop (m.width * row) m.words.items in
      let within = row-within m.width row (2 * length m.turns.items) inside in
      let count = flat.count in
      omega (arith, long, within, count)

  pub rest-fits : Fit rest
  rest-fits i = subst (λ w. w < 2 ^ 64)
      (sym
      (ap (λ (ws : List ℕ). get_or ws i 0) rest-is ∙ get_or-drop (m.width * row) m.words.items i 0))
      (flat.fit (m.width * row + i))
