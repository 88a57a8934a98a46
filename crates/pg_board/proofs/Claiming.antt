-- One more point of a side in one line.
use Rattle.std.proofs.Common.{◌≡◌, ◌≢◌, ℕ, ◌+◌, ◌-◌, ◌<◌, ◌≤◌, true, false, ◌&&◌, List, length, set}
use Rattle.std.proofs.Common.{eqb, refl, sym, ap, ◌∙◌, arith, inl, inr, ◌⊎◌}
use Rattle.std.proofs.Common.{[]}
use Rattle.pg_board.proofs.Common.{cases_eq, eq-eqb, ne_eqb, and_from, get_or-set_same}
use Rattle.pg_board.proofs.Common.{get_or-set_other, length-set, Side, X, Y, other, one_if}
use Rattle.pg_board.proofs.Common.{is_same_side}
use Rattle.pg_board.specs.Shape.{IsShape, Shape, line_in, count_cell, free_cell, cell_count}
use Rattle.pg_board.specs.Counts.{AreCounted, IsCountedMore, IsMoved, lines_in, count_in}
use Rattle.pg_board.specs.Counts.{lines_with, has_free, free_by}
use Rattle.pg_board.proofs.CellPlaces.{count_cell-low, count_cell-high, count_cell-within}
use Rattle.pg_board.proofs.CellPlaces.{count_cell-apart, count_cell-sides, free_cell-low}
use Rattle.pg_board.proofs.Ranges.{count-one, count-some, count-few}

-- the counts of both sides in a line, whichever side comes first
pub sides-sum : (s : Shape) (c : Side → ℕ → ℕ) (side : Side) (i : ℕ)
    → c side i + c (other side) i ≡ c X i + c Y i
sides-sum s c X i = refl
sides-sum s c Y i = omega arith

pub is_own : (side : Side) → is_same_side side side ≡ true
is_own X = refl
is_own Y = refl

pub is_others : (side : Side) → is_same_side (other side) side ≡ false
is_others X = refl
is_others Y = refl

pub other_other : (side : Side) → other (other side) ≡ side
other_other X = refl
other_other Y = refl

pub same_side : (side k : Side) → (k ≡ side) ⊎ (k ≡ other side)
same_side X X = inl refl
same_side X Y = inr refl
same_side Y X = inr refl
same_side Y Y = inl refl

-- a line whose counts say so is counted
pub some-line : (s : Shape) (cells : List ℕ) (side : Side) (i f : ℕ)
    → AreCounted s cells
    → i < length s.lines
    → f ≤ s.longest
    → count_in s cells side i ≡ 0
    → free_by s (count_in s cells) i ≡ f
    → 1 ≤ lines_in s cells side f
unfolding has_free lines_with
some-line s cells side i f counted low short none free =
    let on = and_from (eqb (count_in s cells side i) 0) (eqb (free_by s (count_in s cells) i) f)
    (eq-eqb _ _ none) (eq-eqb _ _ free) in
    let some = count-some (has_free s (count_in s cells) side f) i 0 (length s.lines) (omega arith)
    (omega arith) on in
    omega (arith, counted.lines side f short)

pub few-lines : (s : Shape) (cells : List ℕ) (side : Side) (f : ℕ)
    → AreCounted s cells
    → f ≤ s.longest
    → lines_in s cells side f ≤ length s.lines
unfolding lines_with
few-lines s cells side f counted short =
    let few = count-few (has_free s (count_in s cells) side f) 0 (length s.lines) in
    omega (arith, counted.lines side f short)

-- ---- the counts after the last change

module _ (s : Shape) (side : Side) (line : ℕ) (cells left narrowed : List ℕ) (own theirs free : ℕ)
    (counted : AreCounted s cells) (low : line < length s.lines)
    (own_is : own ≡ count_in s cells side line)
    (theirs_is : theirs ≡ count_in s cells (other side) line)
    (free_is : free ≡ length (line_in s line) - (own + theirs))
    (more : count_in s cells X line + count_in s cells Y line < length (line_in s line))
    (left_is : IsMoved s side (λ f. one_if (eqb own 0 && eqb free f)) (λ f. 0) cells left)
    (narrowed_is : IsMoved s (other side) (λ f. one_if (eqb theirs 0 && eqb free f))
    (λ f. one_if (eqb theirs 0 && eqb free (f + 1))) left narrowed)
    (width : length narrowed ≡ cell_count s) where
  now : List ℕ
  now = set narrowed (count_cell s side line) (own + 1)

  -- the side's own count of the line
  own-now : count_in s now side line ≡ count_in s cells side line + 1
  unfolding now
  own-now =
      let within = count_cell-within s side line low in
      get_or-set_same narrowed (count_cell s side line) (own + 1) 0 (omega arith)
      ∙ ap (λ n. n + 1) own_is

  -- the side's counts of other lines
  apart-now : (j : ℕ)
      → j < length s.lines
      → j ≢ line
      → count_in s now side j ≡ count_in s cells side j
  unfolding now
  apart-now j j_low apart = get_or-set_other narrowed (count_cell s side line) (count_cell s side j)
      (own + 1) 0 (count_cell-apart s side j line apart)
      ∙ (narrowed_is.counts side j j_low ∙ left_is.counts side j j_low)

  -- the other side's counts
  theirs-now : (j : ℕ)
      → j < length s.lines
      → count_in s now (other side) j ≡ count_in s cells (other side) j
  unfolding now
  theirs-now j j_low = get_or-set_other narrowed (count_cell s side line)
      (count_cell s (other side) j) (own + 1) 0 (count_cell-sides s side j line j_low low)
      ∙ (narrowed_is.counts (other side) j j_low ∙ left_is.counts (other side) j j_low)

  -- both sides' counts together
  sum-now : (j : ℕ)
      → j < length s.lines
      → j ≢ line
      → count_in s now X j + count_in s now Y j ≡ count_in s cells X j + count_in s cells Y j
  sum-now j j_low apart =
      let one = apart-now j j_low apart in
      let two = theirs-now j j_low in
      omega (arith, sides-sum s (count_in s now) side j, sides-sum s (count_in s cells) side j)

  sum-here : count_in s now X line + count_in s now Y line
      ≡ count_in s cells X line + count_in s cells Y line + 1
  sum-here =
      let one = own-now in
      let two = theirs-now line low in
      omega (
        arith,
        sides-sum s (count_in s now) side line,
        sides-sum s (count_in s cells) side line,
      )

  free_before : free_by s (count_in s cells) line ≡ free
  free_before = let sum = sides-sum s (count_in s cells) side line in omega arith

  free_after : free_by s (count_in s now) line + 1 ≡ free
  free_after =
      let sum = sides-sum s (count_in s cells) side line in
      let here = sum-here in
      omega arith

  fewer_free : (f : ℕ) → eqb (free_by s (count_in s now) line) f ≡ eqb free (f + 1)
  fewer_free f =
      let after = free_after in
      elim (cases_eq (free_by s (count_in s now) line) f) [
        | inl e ↦ eq-eqb _ _ e ∙ sym (eq-eqb free (f + 1) (omega arith))
        | inr ne ↦ ne_eqb _ _ ne ∙ sym (ne_eqb free (f + 1) (λ e. ne (omega arith)))
      ]

  -- lines but this one are counted as before
  same-test : (k : Side) (f j : ℕ)
      → j < length s.lines
      → j ≢ line
      → count_in s now k j ≡ count_in s cells k j
      → has_free s (count_in s now) k f j ≡ has_free s (count_in s cells) k f j
  unfolding has_free
  same-test k f j j_low apart same =
      let sum = sum-now j j_low apart in
      (λ i. eqb (same i) 0 && eqb (length (line_in s j) - sum i) f)

  lines-own : (f : ℕ) → f ≤ s.longest → lines_in s now side f ≡ lines_with s (count_in s now) side f
  unfolding now has_free lines_with
  lines-own f short =
      let high = count_cell-high s side line low in
      let under = free_cell-low s side f in
      let at : lines_in s now side f ≡ lines_in s narrowed side f = get_or-set_other narrowed
      (count_cell s side line) (free_cell s side f) (own + 1) 0 (λ e. omega arith) in
      let stayed : lines_in s narrowed side f ≡ lines_in s left side f =
      ap (λ k. lines_in s narrowed k f) (sym (other_other side))
      ∙ (narrowed_is.theirs f short ∙ ap (λ k. lines_in s left k f) (other_other side)) in
      let fell = left_is.own f short in
      let one =
      count-one (has_free s (count_in s cells) side f) (has_free s (count_in s now) side f) line 0
      (length s.lines) (omega arith) (omega arith) (λ j lower higher apart. same-test side f j
      (omega arith) apart (apart-now j (omega arith) apart)) in
      let here = own-now in
      let gone : one_if (has_free s (count_in s now) side f line) ≡ 0 = ap one_if
      (ap (λ b. b && eqb (free_by s (count_in s now) line) f)
      (ne_eqb (count_in s now side line) 0 (λ e. omega arith))) in
      let was : one_if (has_free s (count_in s cells) side f line)
      ≡ one_if (eqb own 0 && eqb free f) =
      (λ i. one_if (eqb (sym own_is i) 0 && eqb (free_before i) f)) in
      let before = counted.lines side f short in
      omega arith

  lines-theirs : (f : ℕ)
      → f ≤ s.longest
      → lines_in s now (other side) f ≡ lines_with s (count_in s now) (other side) f
  unfolding now has_free lines_with
  lines-theirs f short =
      let high = count_cell-high s side line low in
      let under = free_cell-low s (other side) f in
      let at : lines_in s now (other side) f ≡ lines_in s narrowed (other side) f =
      get_or-set_other narrowed (count_cell s side line) (free_cell s (other side) f) (own + 1) 0
      (λ e. omega arith) in
      let fell = narrowed_is.own f short in
      let stayed = left_is.theirs f short in
      let one = count-one (has_free s (count_in s cells) (other side) f)
      (has_free s (count_in s now) (other side) f) line 0 (length s.lines) (omega arith)
      (omega arith) (λ j lower higher apart. same-test (other side) f j (omega arith) apart
      (theirs-now j (omega arith))) in
      let same = theirs-now line low in
      let fewer : eqb (free_by s (count_in s now) line) f ≡ eqb free (f + 1) = fewer_free f in
      let is : one_if (has_free s (count_in s now) (other side) f line)
      ≡ one_if (eqb theirs 0 && eqb free (f + 1)) =
      (λ i. one_if (eqb ((same ∙ sym theirs_is) i) 0 && fewer i)) in
      let was : one_if (has_free s (count_in s cells) (other side) f line)
      ≡ one_if (eqb theirs 0 && eqb free f) =
      (λ i. one_if (eqb (sym theirs_is i) 0 && eqb (free_before i) f)) in
      let before = counted.lines (other side) f short in
      omega arith

  pub claimed-more : IsCountedMore s side line cells
      (set narrowed (count_cell s side line) (own + 1))
  unfolding now
  claimed-more = record {
    counts = λ k j j_low. elim (same_side side k) [
      | inl e ↦ rw e (elim (cases_eq j line) [
        | inl h ↦ rw (h, is_own side, eq-eqb line line refl) own-now
        | inr ne ↦ rw (is_own side, ne_eqb j line ne) (let a = apart-now j j_low ne in omega arith)
      ])
      | inr e ↦ rw (e, is_others side) (let a = theirs-now j j_low in omega arith)
    ];
    marks = λ k k_low.
        let under = count_cell-low s side line in
        get_or-set_other narrowed (count_cell s side line) k (own + 1) 0 (λ e. omega arith)
        ∙ (narrowed_is.marks k k_low ∙ left_is.marks k k_low);
  }

  pub claimed-counted : AreCounted s (set narrowed (count_cell s side line) (own + 1))
  unfolding now
  claimed-counted = record {
    width = length-set narrowed (count_cell s side line) (own + 1) ∙ width;
    within = λ j j_low. elim (cases_eq j line) [
      | inl h ↦ rw h (let here = sum-here in omega arith)
      | inr ne ↦ let w = counted.within j j_low in let sum = sum-now j j_low ne in omega arith
    ];
    lines = λ k f short. elim (same_side side k) [
      | inl e ↦ rw e (lines-own f short)
      | inr e ↦ rw e (lines-theirs f short)
    ];
  }

-- a line's free points are no more than the longest line has
pub free-short : (s : Shape) (line n : ℕ)
    → IsShape s
    → line < length s.lines
    → length (line_in s line) - n ≤ s.longest
free-short s line n shape low = let at = shape.lines line [] low in omega (arith, at.short)
