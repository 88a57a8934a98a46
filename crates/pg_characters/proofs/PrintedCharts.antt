-- How many columns the lines of a board take that a layout draws.
use Rattle.std.proofs.Common.{◌≡◌, ℕ, ◌+◌, ◌-◌, ◌*◌, ◌/◌, ◌%◌, ◌≤◌, Bool, true, false, refl}
use Rattle.std.proofs.Common.{List, [], ◌∷◌, ◌++◌, arith, ne_eqb, if◌then◌else◌}
use Rattle.std.specs.Prelude.{◌==◌, codes, nat_lt, Option, Some, None}
use Rattle.std.specs.List.{flat_map, range_with_len}
use Rattle.pg_base.specs.declared.side.Side.{Side}
use Rattle.pg_layout.specs.declared.spot.Spot.{Spot}
use Rattle.pg_characters.specs.Charts.{cell_or_blank, cell_text, chart_text, columns_in, digit_of}
use Rattle.pg_characters.specs.Charts.{lines_in, many_places, mark_cell, owned_cell, row_text}
use Rattle.pg_characters.specs.Charts.{rows_text, strip_at, strip_text, taken_from}
use Rattle.pg_characters.specs.Marks.{is_last, mark_of, painted}
use Rattle.pg_characters.specs.declared.charts.Cell.{Cell}
use Rattle.pg_characters.specs.declared.charts.Strip.{Strip}
use Rattle.pg_characters.specs.declared.charts.TheConstants.{MARK_WIDTH}
use Rattle.pg_characters.specs.declared.sheets.TheConstants.{NEXT_PART}
use Rattle.pg_characters.specs.declared.shown.Shown.{Shown}
use Rattle.pg_characters.proofs.Fit.{Whole, Wide, ends_and, ends_feed, rows_keep, whole_and}
use Rattle.pg_characters.proofs.Fit.{whole_each, whole_line, whole_none, whole_rows, wide_each}
use Rattle.pg_characters.proofs.Fit.{wide_plain}
use Rattle.pg_characters.proofs.Printed.{wide_painted}

-- a byte from the blank on
wide_byte : (b : ℕ) → 32 ≤ b → Wide 1 (b ∷ [])
wide_byte b high =
    let feed : (b == 10) ≡ false = ne_eqb _ _ (λ (e : b ≡ 10). omega (arith, e, high)) in
    let code : (b == 27) ≡ false = ne_eqb _ _ (λ (e : b ≡ 27). omega (arith, e, high)) in
    wide_plain (b ∷ []) (rw (feed, code) refl)

high : (a b c d : Bool) (hundreds one tens ones : ℕ)
    → 32 ≤ (if a
    then (if b then 32 else 48 + hundreds)
    else if c then (if d then 48 + one else 48 + tens) else (if d then 32 else 48 + ones))
high true true c d hundreds one tens ones = omega arith
high true false c d hundreds one tens ones = omega arith
high false b true true hundreds one tens ones = omega arith
high false b true false hundreds one tens ones = omega arith
high false b false true hundreds one tens ones = omega arith
high false b false false hundreds one tens ones = omega arith

wide_mark_cell : (s : Shown) (cell : Cell) (side : Side) → Wide 1 (mark_cell s cell side)
wide_mark_cell s cell side =
    go (cell.place == 1) (is_last s.last cell.point) (cell.place == 0) where
      go : (letter last first : Bool) → Wide 1 (if letter
          then painted s.look.colour side
          else if last then (if first then codes "[" else codes "]") else codes " ")
      go true last first = wide_painted s.look.colour side
      go false true true = wide_plain (codes "[") refl
      go false true false = wide_plain (codes "]") refl
      go false false first = wide_plain (codes " ") refl

wide_owned_cell : (s : Shown) (cell : Cell) (owner : Option Side) → Wide 1 (owned_cell s cell owner)
wide_owned_cell s cell None = wide_byte (digit_of cell)
    (high (cell.place == 0) (nat_lt cell.point 100) (cell.place == 1) (nat_lt cell.point 10)
    (cell.point / 100) cell.point (cell.point / 10 % 10) (cell.point % 10))
wide_owned_cell s cell (Some side) = wide_mark_cell s cell side

wide_cell_or_blank : (s : Shown) (taken : Option Cell) → Wide 1 (cell_or_blank s taken)
wide_cell_or_blank s None = wide_plain (codes " ") refl
wide_cell_or_blank s (Some cell) = wide_owned_cell s cell (mark_of s.position cell.point)

whole_row : (most : ℕ) (spots : List Spot) (s : Shown) (strip : Strip) (line : ℕ)
    → strip.count + 2 ≤ most
    → Whole most (row_text spots s strip line)
unfolding row_text
whole_row most spots s strip line few =
    let cells = flat_map (λ i. cell_text spots s strip line (strip.first + i))
    (range_with_len 0 (strip.count + (MARK_WIDTH - 1))) in
    whole_line most (1 * (strip.count + (MARK_WIDTH - 1)) + 0) (cells ++ codes "\n")
    (omega (arith, few))
    (ends_and most (1 * (strip.count + (MARK_WIDTH - 1))) 0 cells (codes "\n")
    (wide_each 1 (λ i. cell_text spots s strip line (strip.first + i)) 0
    (strip.count + (MARK_WIDTH - 1))
    (λ k from below. wide_cell_or_blank s (taken_from strip line (strip.first + k) 0 spots)))
    (ends_feed most))

whole_next : (most : ℕ) (first : Bool)
    → 80 ≤ most
    → Whole most (if first then [] else NEXT_PART.now)
unfolding rows_keep
whole_next most true wide = whole_none most
whole_next most false wide = whole_rows most NEXT_PART.now wide refl

whole_strip : (spots : List Spot) (s : Shown) (wide first : ℕ)
    → 80 ≤ s.look.columns
    → Whole s.look.columns (strip_text spots s wide first)
unfolding strip_text rows_text
whole_strip spots s wide first enough = go (first % many_places s.look.columns == 0) where
  strip : Strip
  strip = strip_at wide s.look.columns first

  go : (begins : Bool) → Whole s.look.columns (if begins
      then (if first == 0 then [] else NEXT_PART.now) ++ rows_text spots s strip
      else [])
  go true = whole_and s.look.columns (if first == 0 then [] else NEXT_PART.now)
      (rows_text spots s strip) (whole_next s.look.columns (first == 0) enough)
      (whole_each s.look.columns (row_text spots s strip) 0 (lines_in spots)
      (λ line from low. whole_row s.look.columns spots s strip line (omega (arith, enough))))
  go false = whole_none s.look.columns

pub whole_chart : (spots : List Spot) (s : Shown)
    → 80 ≤ s.look.columns
    → Whole s.look.columns (chart_text spots s)
unfolding chart_text
whole_chart spots s enough =
    whole_each s.look.columns (strip_text spots s (columns_in spots)) 0 (columns_in spots)
    (λ first from low. whole_strip spots s (columns_in spots) first enough)
