-- How many columns numbers, names and marks take.
use Rattle.std.proofs.Common.{◌≡◌, ℕ, ◌+◌, ◌-◌, ◌/◌, ◌%◌, ◌^◌, ◌<◌, ◌≤◌, Bool, true, false}
use Rattle.std.proofs.Common.{refl, [], ◌++◌, length, arith, subst, sym, ne_eqb}
use Rattle.std.proofs.Common.{nat_lt, nat_le, if◌then◌else◌}
use Rattle.std.specs.Prelude.{◌==◌, codes, decimal, Option, Some, None}
use Rattle.std.proofs.Math.Nat.{div-le_self, div-lt_iff_lt-mul}
use Rattle.std.proofs.lemmas.Bool.Decides.{nat_tests}
use Rattle.std.proofs.lemmas.Fmt.{length-decimal-le}
use Rattle.std.proofs.lemmas.Nat.{mod_below}
use Rattle.pg_base.specs.Texts.{Bytes}
use Rattle.pg_base.specs.declared.grid.Grid.{Grid}
use Rattle.pg_base.specs.declared.side.Side.{Side}
use Rattle.pg_base.specs.declared.side.Side.TheVariants.{X, Y}
use Rattle.pg_game.proofs.Limits.{point_count-le}
use Rattle.pg_game.specs.Field.{field_points}
use Rattle.pg_game.specs.Fit.{AreLinesOf}
use Rattle.pg_game.specs.Game.{point_count}
use Rattle.pg_game.specs.declared.field.Field.{Field}
use Rattle.pg_game.specs.declared.field.Field.TheVariants.{Lines, Graph as OnGraph}
use Rattle.pg_game.specs.declared.field.LineField.{LineField}
use Rattle.pg_game.specs.declared.game.Game.{Game}
use Rattle.pg_text.proofs.Decimals.{IsDigit, all_pass, decimal_digits}
use Rattle.pg_characters.specs.Marks.{colour_of, is_last, letter_of, mark_of, mark_or, mark_text}
use Rattle.pg_characters.specs.Marks.{marked, painted, plain, tint, untint}
use Rattle.pg_characters.specs.Names.{blanks_of, cell_name, column_name, letter, line_point_name}
use Rattle.pg_characters.specs.Names.{padded, padded_right, point_name}
use Rattle.pg_characters.specs.declared.shown.Shown.{Shown}
use Rattle.pg_characters.proofs.Fit.{Wide, is_plain, wide_and, wide_blue, wide_less, wide_none}
use Rattle.pg_characters.proofs.Fit.{wide_normal, wide_plain, wide_red}
use Rattle.pg_characters.proofs.Widths.{some_columns}

-- ---- numbers

plain_digit : (b : ℕ) → IsDigit b → is_plain b ≡ true
plain_digit b h =
    let feed : (b == 10) ≡ false = ne_eqb _ _ (λ (e : b ≡ 10). omega (arith, e, h.0)) in
    let code : (b == 27) ≡ false = ne_eqb _ _ (λ (e : b ≡ 27). omega (arith, e, h.0)) in
    rw (feed, code) refl

pub wide_decimal : (digits n : ℕ)
    → 0 < digits
    → n < 10 ^ digits
    → n < 2 ^ 64
    → Wide digits (decimal n)
wide_decimal digits n some few wide =
    wide_less (length (decimal n)) digits (decimal n) (length-decimal-le digits n some few wide)
    (wide_plain (decimal n) (all_pass IsDigit is_plain plain_digit (decimal n)
    (decimal_digits n wide)))

-- a number below a thousand, and the blanks that make it three columns wide
in_three : (n : ℕ) → n < 1000 → (blanks : ℕ) × (digits : ℕ)
    × Wide blanks (blanks_of n) × Wide digits (decimal n) × (blanks + digits ≡ 3)
in_three n few = go (nat_lt n 10) (nat_lt n 100) refl refl where
  wide : n < 2 ^ 64
  wide = omega (arith, few)

  go : (one two : Bool)
      → nat_lt n 10 ≡ one
      → nat_lt n 100 ≡ two
      → (blanks : ℕ) × (digits : ℕ)
      × Wide blanks (if one then codes "  " else if two then codes " " else [])
      × Wide digits (decimal n) × (blanks + digits ≡ 3)
  go true two is _ =
      let small : n < 10 = grind (arith, nat_tests, is) in (
        2,
        1,
        wide_plain (codes "  ") refl,
        wide_decimal 1 n (omega arith) (omega (arith, small)) wide,
        refl,
      )
  go false true _ is =
      let small : n < 100 = grind (arith, nat_tests, is) in (
        1,
        2,
        wide_plain (codes " ") refl,
        wide_decimal 2 n (omega arith) (omega (arith, small)) wide,
        refl,
      )
  go false false _ _ =
      (0, 3, wide_none, wide_decimal 3 n (omega arith) (omega (arith, few)) wide, refl)

pub wide_padded : (n : ℕ) → n < 1000 → Wide 3 (padded n)
wide_padded n few =
    let parts = in_three n few in
    subst (λ (k : ℕ). Wide k (padded n)) parts.4
    (wide_and parts.0 parts.1 (blanks_of n) (decimal n) parts.2 parts.3)

pub wide_padded_right : (n : ℕ) → n < 1000 → Wide 3 (padded_right n)
wide_padded_right n few =
    let parts = in_three n few in
    let sum : parts.1 + parts.0 ≡ 3 = let whole = parts.4 in omega (arith, whole) in
    subst (λ (k : ℕ). Wide k (padded_right n)) sum
    (wide_and parts.1 parts.0 (decimal n) (blanks_of n) parts.3 parts.2)

-- ---- names

wide_letter : (k : ℕ) → Wide 1 (letter k)
wide_letter k =
    let feed : (97 + k == 10) ≡ false = ne_eqb _ _ (λ (e : 97 + k ≡ 10). omega (arith, e)) in
    let code : (97 + k == 27) ≡ false = ne_eqb _ _ (λ (e : 97 + k ≡ 27). omega (arith, e)) in
    wide_plain (letter k) (rw (feed, code) refl)

-- a column's name has one letter if there are few columns, else two
pub wide_column : (column : ℕ) → (far : Bool) → nat_le 26 column ≡ far
    → Wide (if far then 2 else 1) (column_name column)
wide_column column far is = subst (λ (b : Bool). Wide (if far then 2 else 1)
    ((if b then letter (column / 26 - 1) else []) ++ letter (column % 26))) (sym is) (go far) where
      go : (b : Bool) → Wide (if b then 2 else 1)
          ((if b then letter (column / 26 - 1) else []) ++ letter (column % 26))
      go true = wide_and 1 1 (letter (column / 26 - 1)) (letter (column % 26))
          (wide_letter (column / 26 - 1)) (wide_letter (column % 26))
      go false = wide_letter (column % 26)

-- a cell's name: on a board with many columns, one of few rows
wide_cell : (grid : Grid) (v : ℕ) → 0 < grid.width → v < 256 → Wide 4 (cell_name grid v)
wide_cell grid v some few = go (nat_le 26 (v % grid.width)) refl where
  go : (far : Bool) → nat_le 26 (v % grid.width) ≡ far → Wide 4 (cell_name grid v)
  go true is =
      let far : 26 ≤ v % grid.width = grind (arith, nat_tests, is) in
      let many : v % grid.width < grid.width = mod_below v grid.width some in
      let row : v / grid.width < 10 = (div-lt_iff_lt-mul {k = grid.width} {x = v} {y = 10} some).1
      (omega (arith, far, many, few)) in
      wide_and 2 2 (column_name (v % grid.width)) (decimal (v / grid.width + 1))
      (wide_column (v % grid.width) true is)
      (wide_decimal 2 (v / grid.width + 1) (omega arith) (omega (arith, row)) (omega (arith, row)))
  go false is =
      let row : v / grid.width ≤ v = div-le_self v grid.width in
      wide_and 1 3 (column_name (v % grid.width)) (decimal (v / grid.width + 1))
      (wide_column (v % grid.width) false is)
      (wide_decimal 3 (v / grid.width + 1) (omega arith) (omega (arith, row, few))
      (omega (arith, row, few)))

-- a point's name
wide_number : (v : ℕ) → v < 1000 → Wide 4 (decimal v)
wide_number v few = wide_less 3 4 (decimal v) (omega arith)
    (wide_decimal 3 v (omega arith) (omega (arith, few)) (omega (arith, few)))

wide_on_lines : (bias : ℕ) (f : LineField) (v : ℕ)
    → AreLinesOf bias f
    → v < f.points
    → Wide 4 (line_point_name f.grid v)
wide_on_lines bias f v fits inside = go f.grid refl where
  few : v < 256
  few = omega (arith, inside, fits.few_points)

  go : (grid : Option Grid) → f.grid ≡ grid → Wide 4 (line_point_name grid v)
  go None is = wide_number v (omega (arith, few))
  go (Some grid) is = wide_cell grid v
      (some_columns grid.width grid.height f.points (fits.cells grid is) fits.some_points) few

pub wide_name : (g : Game) (v : ℕ) → v < point_count g → Wide 4 (point_name g.field v)
wide_name g v inside = go g.field refl where
  go : (field : Field) → g.field ≡ field → Wide 4 (point_name field v)
  go (Lines f) is = wide_on_lines g.bias f v (g.fits.within.on_lines f is)
      (subst (λ (k : Field). v < field_points k) is inside)
  go (OnGraph h) is =
      wide_number v (let most = point_count-le g in omega (arith, inside, most))

-- ---- marks

pub wide_tint : (colour : Bool) (side : Side) → Wide 0 (tint colour side)
wide_tint false side = wide_none
wide_tint true X = wide_red
wide_tint true Y = wide_blue

pub wide_untint : (colour : Bool) → Wide 0 (untint colour)
wide_untint false = wide_none
wide_untint true = wide_normal

pub wide_side : (side : Side) → Wide 1 (letter_of side)
wide_side X = wide_plain (codes "X") refl
wide_side Y = wide_plain (codes "O") refl

pub wide_painted : (colour : Bool) (side : Side) → Wide 1 (painted colour side)
wide_painted false side = wide_side side
wide_painted true side = wide_and 0 1 (colour_of side) (letter_of side ++ plain)
    (wide_tint true side) (wide_and 1 0 (letter_of side) plain (wide_side side) wide_normal)

wide_mark : (s : Shown) (v : ℕ) (side : Side) → Wide 3 (mark_text s v side)
wide_mark s v side = go (is_last s.last v) where
  one : Wide 1 (painted s.look.colour side)
  one = wide_painted s.look.colour side

  go : (last : Bool) → Wide 3 (if last
      then codes "[" ++ (painted s.look.colour side ++ codes "]")
      else codes " " ++ (painted s.look.colour side ++ codes " "))
  go true = wide_and 1 2 (codes "[") (painted s.look.colour side ++ codes "]")
      (wide_plain (codes "[") refl)
      (wide_and 1 1 (painted s.look.colour side) (codes "]") one (wide_plain (codes "]") refl))
  go false = wide_and 1 2 (codes " ") (painted s.look.colour side ++ codes " ")
      (wide_plain (codes " ") refl)
      (wide_and 1 1 (painted s.look.colour side) (codes " ") one (wide_plain (codes " ") refl))

pub wide_marked : (s : Shown) (v : ℕ) (free : Bytes) → Wide 3 free → Wide 3 (marked s v free)
wide_marked s v free blank = go (mark_of s.position v) where
  go : (owner : Option Side) → Wide 3 (mark_or s v free owner)
  go None = blank
  go (Some side) = wide_mark s v side
