-- The names of points are read as these points.
use Rattle.std.proofs.Common.{◌≡◌, ◌≢◌, ℕ, ◌+◌, ◌-◌, ◌*◌, ◌/◌, ◌%◌, ◌<◌, ◌≤◌, ◌^◌, Bool, true}
use Rattle.std.proofs.Common.{false, [], ◌∷◌, ◌++◌, length, get_or, refl, sym, ap, arith}
use Rattle.std.proofs.Common.{subst, nat_lt, nat_le, suc, zero}
use Rattle.std.specs.Prelude.{codes, decimal, Option, Some, None, ◌&&◌, ◌||◌, ◌==◌, not}
use Rattle.std.specs.Prelude.{if◌then◌else◌}
use Rattle.std.specs.Str.Parse.{digits_value}
use Rattle.std.specs.Char.{is_ascii_digit}
use Rattle.std.specs.Str.{bytes_eq}
use Rattle.std.proofs.Math.Nat.{div-add-mod, div-le_self, div-lt_iff_lt-mul, mod-eq_of_lt, mod-le}
use Rattle.std.proofs.Math.Nat.{mul_comm}
use Rattle.std.proofs.lemmas.Bool.Decides.{nat_tests}
use Rattle.std.proofs.lemmas.Fmt.{decimal_is_IsNumeral}
use Rattle.std.proofs.lemmas.Nat.{mod_below}
use Rattle.std.proofs.lemmas.Slice.Eq.{bytes_eq-Decides}
use Rattle.std.specs.List.{AllByRecursion}
use Rattle.pg_base.specs.Texts.{Bytes}
use Rattle.pg_base.specs.declared.grid.Grid.{Grid}
use Rattle.pg_game.specs.declared.field.Field.{Field}
use Rattle.pg_game.specs.declared.field.Field.TheVariants.{Lines}
use Rattle.pg_game.specs.declared.field.LineField.{LineField}
use Rattle.pg_text.proofs.Cuts.{no_parts}
use Rattle.pg_text.proofs.Decimals.{IsDigit, decimal_digits, number_decimal}
use Rattle.pg_text.proofs.PlainWords.{IsPlain, IsWord, decimal_is_word, lacks_space}
use Rattle.pg_text.specs.Text.{number, two_parts}
use Rattle.pg_characters.specs.Names.{cell_name, column_name, letter}
use Rattle.pg_table.specs.Reply.{cell_at, field_point, is_letter, named_on}
use Rattle.pg_table.specs.Reply.{number_or, read_command, read_reply}
use Rattle.pg_table.specs.declared.reply.Named.TheVariants as named
use Rattle.pg_table.specs.declared.reply.Reply.TheVariants.{Point}

-- two texts that differ
differ : (xs ys : Bytes) → (xs ≡ ys → ⊥) → bytes_eq xs ys ≡ false
differ xs ys apart = go (bytes_eq xs ys) refl where
  go : (b : Bool) → bytes_eq xs ys ≡ b → b ≡ false
  go true is = absurd (apart (grind (arith, bytes_eq-Decides, is)))
  go false is = refl

-- texts with other bytes at a place
apart_at : (xs ys : Bytes) (i : ℕ) → get_or xs i 0 ≢ get_or ys i 0 → bytes_eq xs ys ≡ false
apart_at xs ys i other = differ xs ys (λ same. other (ap (λ (w : Bytes). get_or w i 0) same))

-- a text that differs from each command at a place is none
no_command : (text : Bytes) (i : ℕ)
    → get_or text i 0 ≢ get_or (codes "undo") i 0
    → get_or text i 0 ≢ get_or (codes "lines") i 0
    → get_or text i 0 ≢ get_or (codes "?") i 0
    → get_or text i 0 ≢ get_or (codes "quit") i 0
    → read_command text ≡ None
no_command text i a b c d = rw (
  apart_at text (codes "undo") i a,
  apart_at text (codes "lines") i b,
  apart_at text (codes "?") i c,
  apart_at text (codes "quit") i d,
) refl

-- a text that is no command, has no space and names a point
reads : (field : Field) (text : Bytes) (v : ℕ)
    → read_command text ≡ None
    → two_parts 32 text ≡ None
    → field_point field text ≡ named.Point v
    → read_reply field text ≡ Point v
reads field text v a b c = rw (a, b, c) refl

-- ---- numbers

first_digit : (w : Bytes) → 0 < length w → AllByRecursion IsDigit w → IsDigit (get_or w 0 0)
first_digit [] some h = absurd (omega (arith, some))
first_digit (d ∷ ds) some h = h.0

-- the first digit of a number
leads : (n : ℕ) → n < 2 ^ 64 → IsDigit (get_or (decimal n) 0 0)
leads n wide =
    first_digit (decimal n) (decimal_is_IsNumeral n wide).0.0 (decimal_digits n wide)

no_word : (w : Bytes) → IsDigit (get_or w 0 0) → read_command w ≡ None
no_word w h = no_command w 0
    (λ (e : get_or w 0 0 ≡ 117). omega (arith, e, h.1))
    (λ (e : get_or w 0 0 ≡ 108). omega (arith, e, h.1))
    (λ (e : get_or w 0 0 ≡ 63). omega (arith, e, h.1))
    (λ (e : get_or w 0 0 ≡ 113). omega (arith, e, h.1))

pub number_read : (field : Field) (v : ℕ)
    → v < 10 ^ 9
    → read_reply field (decimal v) ≡ Point v
number_read field v small =
    let wide : v < 2 ^ 64 = omega arith in
    reads field (decimal v) v (no_word (decimal v) (leads v wide))
    (no_parts 32 (decimal v) (lacks_space (decimal v) (decimal_is_word v wide)))
    (ap (λ (o : Option ℕ). number_or o (named_on field (decimal v))) (number_decimal v small))

-- ---- cells

-- a text that begins with a letter is no number
no_number : (x : ℕ) (w : Bytes) → 97 ≤ x → number (x ∷ w) ≡ None
unfolding number
no_number x w high =
    let letter : is_ascii_digit x ≡ false = grind (arith, nat_tests, high) in
    rw letter (go (nat_lt 0 (length (x ∷ w)) && nat_le (length (x ∷ w)) 9)) where
      go : (short : Bool)
          → (if (short && false) && (length (x ∷ w) == 1 || not (x == 48))
          then Some (digits_value 10 (x ∷ w))
          else None) ≡ None
      go true = refl
      go false = refl

letter_is : (c : ℕ) → c < 26 → is_letter (97 + c) ≡ true
letter_is c small = grind (arith, nat_tests)

digit_is : (d : ℕ) → IsDigit d → is_letter d ≡ false
digit_is d h = grind (arith, nat_tests, h.1)

plain_letter : (c : ℕ) → c < 26 → IsPlain (97 + c)
plain_letter c small = (omega arith, omega arith)

-- one letter and a number
one_letter : (f : LineField) (grid : Grid) (c r v : ℕ) (w : Bytes)
    → f.grid ≡ Some grid
    → c < 26
    → IsDigit (get_or w 0 0)
    → IsWord w
    → number w ≡ Some r
    → cell_at grid c (Some r) ≡ named.Point v
    → read_reply (Lines f) ((97 + c) ∷ w) ≡ Point v
one_letter f grid c r v [] on small digit plain row cell = absurd (omega (arith, digit.0))
one_letter f grid c r v (d ∷ ds) on small digit plain row cell =
    let text : Bytes = (97 + c) ∷ d ∷ ds in
    let same : 97 + c - 97 ≡ c = omega arith in
    reads (Lines f) text v
    (no_command text 1
    (λ (e : d ≡ 110). omega (arith, e, digit.1)) (λ (e : d ≡ 105). omega (arith, e, digit.1))
    (λ (e : d ≡ 0). omega (arith, e, digit.0)) (λ (e : d ≡ 117). omega (arith, e, digit.1)))
    (no_parts 32 text (lacks_space text (plain_letter c small, plain)))
    (rw (
      no_number (97 + c) (d ∷ ds) (omega arith),
      on,
      letter_is c small,
      digit_is d digit,
      same,
      row,
    ) cell)

-- two letters and a number
two_letters : (f : LineField) (grid : Grid) (a b c r v : ℕ) (w : Bytes)
    → f.grid ≡ Some grid
    → a < 26
    → b < 26
    → (a + 1) * 26 + b ≡ c
    → IsDigit (get_or w 0 0)
    → IsWord w
    → number w ≡ Some r
    → cell_at grid c (Some r) ≡ named.Point v
    → read_reply (Lines f) ((97 + a) ∷ (97 + b) ∷ w) ≡ Point v
two_letters f grid a b c r v [] on first second sum digit plain row cell =
    absurd (omega (arith, digit.0))
two_letters f grid a b c r v (d ∷ ds) on first second sum digit plain row cell =
    let text : Bytes = (97 + a) ∷ (97 + b) ∷ d ∷ ds in
    let column : (97 + a - 97 + 1) * 26 + (97 + b - 97) ≡ c = omega (arith, sum) in
    reads (Lines f) text v
    (no_command text 2
    (λ (e : d ≡ 100). omega (arith, e, digit.1)) (λ (e : d ≡ 110). omega (arith, e, digit.1))
    (λ (e : d ≡ 0). omega (arith, e, digit.0)) (λ (e : d ≡ 105). omega (arith, e, digit.1)))
    (no_parts 32 text (lacks_space text (plain_letter a first, (plain_letter b second, plain))))
    (rw (
      no_number (97 + a) ((97 + b) ∷ d ∷ ds) (omega arith),
      on,
      letter_is a first,
      letter_is b second,
      column,
      row,
    ) cell)

-- a board with cells has columns
wide_enough : (w h v : ℕ) → v < w * h → 0 < w
wide_enough zero h v inside = absurd (omega (arith, inside))
wide_enough (suc w) h v inside = omega arith

-- the cell of a column and a row is the one that they are of
cell_back : (grid : Grid) (v : ℕ)
    → v < grid.width * grid.height
    → 0 < grid.width
    → cell_at grid (v % grid.width) (Some (v / grid.width + 1)) ≡ named.Point v
cell_back grid v inside some =
    let column : nat_lt (v % grid.width) grid.width ≡ true =
    grind (arith, nat_tests, mod_below v grid.width some) in
    let low : v / grid.width < grid.height =
    (div-lt_iff_lt-mul {k = grid.width} {x = v} {y = grid.height} some).1
    (let same = mul_comm grid.width grid.height in omega (arith, same, inside)) in
    let row : nat_le (v / grid.width + 1) grid.height ≡ true = grind (arith, nat_tests, low) in
    let high : nat_lt 0 (v / grid.width + 1) ≡ true = grind (arith, nat_tests) in
    let place : (v / grid.width + 1 - 1) * grid.width + v % grid.width ≡ v =
    let whole = div-add-mod v grid.width in
    let turned = mul_comm grid.width (v / grid.width) in
    let less : v / grid.width + 1 - 1 ≡ v / grid.width = omega arith in
    rw less (omega (arith, whole, turned)) in
    rw (column, high, row, place) refl

-- a column and a row name the cell in them
named_cell : (f : LineField) (grid : Grid) (c r v : ℕ)
    → f.grid ≡ Some grid
    → c < 256
    → r < 10 ^ 9
    → cell_at grid c (Some r) ≡ named.Point v
    → read_reply (Lines f) (column_name c ++ decimal r) ≡ Point v
named_cell f grid c r v on few small cell = go (nat_le 26 c) refl where
  wide : r < 2 ^ 64
  wide = omega arith

  go : (far : Bool)
      → nat_le 26 c ≡ far
      → read_reply (Lines f)
      (((if far then letter (c / 26 - 1) else []) ++ letter (c % 26)) ++ decimal r) ≡ Point v
  go true is =
      let far : 26 ≤ c = grind (arith, nat_tests, is) in
      let whole : 26 * (c / 26) + c % 26 ≡ c = div-add-mod c 26 in
      let below : c % 26 < 26 = mod_below c 26 (omega arith) in
      two_letters f grid (c / 26 - 1) (c % 26) c r v (decimal r) on
      (omega (arith, whole, far, few)) below (omega (arith, whole, far, below)) (leads r wide)
      (decimal_is_word r wide) (number_decimal r small) cell
  go false is =
      let near : c < 26 = grind (arith, nat_tests, is) in
      let same : c % 26 ≡ c = mod-eq_of_lt near in
      subst (λ (k : ℕ). read_reply (Lines f) ((97 + k) ∷ decimal r) ≡ Point v) (sym same)
      (one_letter f grid c r v (decimal r) on near (leads r wide) (decimal_is_word r wide)
      (number_decimal r small) cell)

pub cell_read : (f : LineField) (grid : Grid) (v : ℕ)
    → f.grid ≡ Some grid
    → v < grid.width * grid.height
    → v < 256
    → read_reply (Lines f) (cell_name grid v) ≡ Point v
cell_read f grid v on inside few =
    let some : 0 < grid.width = wide_enough grid.width grid.height v inside in
    let column : v % grid.width ≤ v = mod-le v grid.width in
    let row : v / grid.width ≤ v = div-le_self v grid.width in
    named_cell f grid (v % grid.width) (v / grid.width + 1) v on (omega (arith, column, few))
    (omega (arith, row, few)) (cell_back grid v inside some)
