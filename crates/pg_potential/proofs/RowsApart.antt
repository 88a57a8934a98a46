-- Sets in rows of words: they have no point in common where no word of one has a bit of the
-- other's.
use Rattle.std.proofs.Common.{Bool, true, false, ◌&&◌, ◌≡◌, ◌∙◌, ℕ, ◌+◌, ◌*◌, ◌/◌, ◌%◌, ◌<◌}
use Rattle.std.proofs.Common.{List, get_or, bit_and, nat_eq, refl, sym, ap, arith}
use Rattle.pg_potential.proofs.Common.{contains, ShareNone, members_below, bit_test, bit_test-and}
use Rattle.pg_potential.proofs.Common.{zero-from_tests}
use Rattle.std.proofs.lemmas.Nat.{and_le_l}
use Rattle.std.proofs.lemmas.Nat.Bits.{bit_at-zero}
use Rattle.pg_potential.proofs.FlatMarks.{Fit}
use Rattle.pg_potential.proofs.RowsWithin.{member-at, member-below}

off_one : (p q : Bool) → (p && q) ≡ false → p ≡ true → q ≡ false
off_one true q h on = h
off_one false q h on = cc

off_any : (p q : Bool) → (p ≡ true → q ≡ false) → (p && q) ≡ false
off_any true q h = h refl
off_any false q h = refl

module _ (ws us : List ℕ) (rows : ℕ) (mine : Fit ws) where
  pub apart-from_rows : ((i : ℕ) → i < rows → bit_and (get_or ws i 0) (get_or us i 0) ≡ 0)
      → ShareNone (members_below ws (64 * rows)) (members_below us (64 * rows))
  apart-from_rows clear v on =
      let lt = member-below ws rows v on in
      let place : 64 * (v / 64) + v % 64 ≡ v = omega arith in
      let row : v / 64 < rows = omega (arith, lt) in
      let column : v % 64 < 64 = omega arith in
      let off : bit_test (bit_and (get_or ws (v / 64) 0) (get_or us (v / 64) 0)) (v % 64) ≡ false =
      ap (λ w. bit_test w (v % 64)) (clear (v / 64) row)
      ∙ ap (λ n. nat_eq n 1) (bit_at-zero (v % 64)) in
      let set : bit_test (get_or ws (v / 64) 0) (v % 64) ≡ true =
      sym (member-at ws rows (v / 64) (v % 64) row column)
      ∙ ap (contains (members_below ws (64 * rows))) place
      ∙ on in
      ap (contains (members_below us (64 * rows))) (sym place)
      ∙ member-at us rows (v / 64) (v % 64) row column
      ∙ off_one _ _
      (sym (bit_test-and (get_or ws (v / 64) 0) (get_or us (v / 64) 0) (v % 64)) ∙ off) set

  pub row-from_apart : ShareNone (members_below ws (64 * rows)) (members_below us (64 * rows))
      → (i : ℕ) → i < rows
      → bit_and (get_or ws i 0) (get_or us i 0) ≡ 0
  row-from_apart apart i row = zero-from_tests _ (omega (
    arith,
    and_le_l (get_or ws i 0) (get_or us i 0),
    mine i,
  )) (λ j column. bit_test-and (get_or ws i 0) (get_or us i 0) j
      ∙ off_any _ _ (λ on. sym (member-at us rows i j row column)
      ∙ apart (64 * i + j) (member-at ws rows i j row column ∙ on)))
