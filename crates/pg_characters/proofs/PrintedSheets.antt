-- Lines of boards with rows and columns, and of entries in rows, fit into a row.
use Rattle.std.proofs.Common.{◌≡◌, ◌∙◌, ℕ, zero, suc, ◌+◌, ◌-◌, ◌*◌, ◌/◌, ◌%◌, ◌<◌, ◌≤◌, Bool, true}
use Rattle.std.proofs.Common.{false, refl, List, [], ◌++◌, arith, get_or, subst, sym, ap, inl, inr}
use Rattle.std.proofs.Common.{append_assoc, eq-eqb, nat_lt, nat_le, if◌then◌else◌, true≢false}
use Rattle.std.specs.Prelude.{◌==◌, ◌||◌, codes, Option, Some, None, slice_get}
use Rattle.std.specs.List.{All, flat_map, range_with_len}
use Rattle.std.proofs.Math.Arith.{lt_of_le-ne}
use Rattle.std.proofs.Math.Nat.{mod-eq_of_lt, mod_self, mul-le-mul_left, mul-le-mul_right, suc-mod}
use Rattle.std.proofs.lemmas.Bool.{cases_Bool, cases_eq, or_parts}
use Rattle.std.proofs.lemmas.Bool.Decides.{nat_tests}
use Rattle.std.proofs.lemmas.Nat.{mod_below}
use Rattle.std.proofs.lemmas.Option.{same_Some, slice_get-get_or, slice_get_within}
use Rattle.pg_base.specs.Texts.{Bytes}
use Rattle.pg_base.specs.declared.side.Side.{Side}
use Rattle.pg_base.specs.declared.side.Side.TheVariants.{X, Y}
use Rattle.pg_game.proofs.Limits.{point_count-le}
use Rattle.pg_game.specs.Fit.{IsBoard}
use Rattle.pg_game.specs.Game.{point_count}
use Rattle.pg_game.specs.Position.{is_free}
use Rattle.pg_game.specs.declared.field.Field.{Field}
use Rattle.pg_game.specs.declared.field.Field.TheVariants.{Lines, Graph as OnGraph}
use Rattle.pg_game.specs.declared.game.Game.{Game}
use Rattle.pg_graph.specs.declared.graph.Graph.{Graph}
use Rattle.pg_characters.specs.Entries.{edge_text, ends_text, entries_text, entry_in_row}
use Rattle.pg_characters.specs.Entries.{entry_text, entry_width, in_row, pair_text, point_text}
use Rattle.pg_characters.specs.Entries.{row_end}
use Rattle.pg_characters.specs.Marks.{mark_of, marked, tint, untint}
use Rattle.pg_characters.specs.Names.{column_name, padded, padded_right}
use Rattle.pg_characters.specs.Paper.{dash, dot_letter, dot_text, owned_text, spot_text, stroke_of}
use Rattle.pg_characters.specs.Paper.{stroke_text, text_of_spot}
use Rattle.pg_characters.specs.Sheets.{IsSheet, heading_text, height_of, label_text, label_width}
use Rattle.pg_characters.specs.Sheets.{many_columns, part_at, part_text, place_text, row_text}
use Rattle.pg_characters.specs.Sheets.{rows_text, sheet_text, title_text, titles_text, width_of}
use Rattle.pg_characters.specs.Spots.{HasEdgeBelow, is_odd, is_outer, span_of, spot_at}
use Rattle.pg_characters.specs.declared.sheets.Part.{Part}
use Rattle.pg_characters.specs.declared.sheets.Sheet.{Sheet}
use Rattle.pg_characters.specs.declared.sheets.Sheet.TheVariants.{Cells, Paper}
use Rattle.pg_characters.specs.declared.sheets.TheConstants.{NEXT_PART}
use Rattle.pg_characters.specs.declared.shown.Shown.{Shown}
use Rattle.pg_characters.specs.declared.spots.Spot.{Spot as Place}
use Rattle.pg_characters.specs.declared.spots.Spot.TheVariants.{Blank, Dot, Border, Edge}
use Rattle.pg_characters.proofs.Fit.{Whole, Wide, ends_and, ends_feed, keeps, rows_keep, whole_and}
use Rattle.pg_characters.proofs.Fit.{whole_each, whole_line, whole_none, whole_rows, wide_and}
use Rattle.pg_characters.proofs.Fit.{wide_each, wide_less, wide_none, wide_plain}
use Rattle.pg_characters.proofs.Printed.{wide_column, wide_marked, wide_padded, wide_padded_right}
use Rattle.pg_characters.proofs.Printed.{wide_tint, wide_untint}

-- ---- places of a Bridg-It board

-- each edge has a number below a thousand
edges_small : (r row column : ℕ)
    → 1 ≤ r
    → r ≤ 22
    → row < span_of r
    → column < span_of r
    → HasEdgeBelow 1000 (spot_at r row column)
edges_small r row column some few low left = go (is_odd row) (is_odd column) refl refl where
  square : r * r ≤ 22 * r
  square = mul-le-mul_right r few

  along : is_odd row ≡ true → is_odd column ≡ true → row / 2 * r + column / 2 < 1000
  along a b =
      let rows : row / 2 * r ≤ row / 2 * 22 = mul-le-mul_left (row / 2) few in
      omega (arith, rows, low, left, few)

  between : r * r + ((row / 2 - 1) * (r - 1) + (column / 2 - 1)) < 1000
  between =
      let rows : (row / 2 - 1) * (r - 1) ≤ (row / 2 - 1) * 21 =
      mul-le-mul_left (row / 2 - 1) (omega (arith, few)) in
      omega (arith, rows, square, low, left, few)

  go : (a b : Bool)
      → is_odd row ≡ a
      → is_odd column ≡ b
      → HasEdgeBelow 1000 (spot_at r row column)
  go true true a b = rw (a, b) (along a b)
  go true false a b = rw (a, b) tt
  go false true a b = rw (a, b) tt
  go false false a b = elim (cases_Bool (is_outer r row)) [
    | inl c ↦ elim (cases_Bool (is_outer r column)) [
      | inl d ↦ rw (a, b, c, d) tt
      | inr d ↦ rw (a, b, c, d) tt
    ]
    | inr c ↦ elim (cases_Bool (is_outer r column)) [
      | inl d ↦ rw (a, b, c, d) tt
      | inr d ↦ rw (a, b, c, d) between
    ]
  ]

wide_dash : (joined : Bool) → Wide 1 (dash joined)
wide_dash true = wide_plain (codes "-") refl
wide_dash false = wide_plain (codes " ") refl

wide_dot_letter : (side : Side) → Wide 1 (dot_letter side)
wide_dot_letter X = wide_plain (codes "x") refl
wide_dot_letter Y = wide_plain (codes "o") refl

wide_stroke_of : (last across : Bool) → Wide 3 (stroke_of last across)
wide_stroke_of true true = wide_plain (codes "[-]") refl
wide_stroke_of true false = wide_plain (codes "[|]") refl
wide_stroke_of false true = wide_plain (codes "---") refl
wide_stroke_of false false = wide_plain (codes " | ") refl

wide_dot : (s : Shown) (side : Side) (left right : Bool) → Wide 3 (dot_text s side left right)
wide_dot s side left right = wide_and 0 3 (tint s.look.colour side)
    (dash left ++ (dot_letter side ++ (dash right ++ untint s.look.colour)))
    (wide_tint s.look.colour side)
    (wide_and 1 2 (dash left) (dot_letter side ++ (dash right ++ untint s.look.colour))
    (wide_dash left)
    (wide_and 1 1 (dot_letter side) (dash right ++ untint s.look.colour) (wide_dot_letter side)
    (wide_and 1 0 (dash right) (untint s.look.colour) (wide_dash right)
    (wide_untint s.look.colour))))

wide_stroke : (s : Shown) (side : Side) (last across : Bool)
    → Wide 3 (stroke_text s side last across)
wide_stroke s side last across = wide_and 0 3 (tint s.look.colour side)
    (stroke_of last across ++ untint s.look.colour) (wide_tint s.look.colour side)
    (wide_and 3 0 (stroke_of last across) (untint s.look.colour) (wide_stroke_of last across)
    (wide_untint s.look.colour))

wide_owned : (s : Shown) (number : ℕ) (across : Side) (owner : Option Side)
    → number < 1000
    → Wide 3 (owned_text s number across owner)
wide_owned s number across None few = wide_padded number few
wide_owned s number across (Some side) few = wide_stroke s side _ _

wide_spot : (r : ℕ) (s : Shown) (row column : ℕ)
    → 1 ≤ r
    → r ≤ 22
    → row < span_of r
    → column < span_of r
    → Wide 3 (spot_text r s row column)
wide_spot r s row column some few low left = go (spot_at r row column) refl where
  go : (spot : Place)
      → spot_at r row column ≡ spot
      → Wide 3 (text_of_spot r s row column spot)
  go Blank is = wide_plain (codes "   ") refl
  go (Dot side) is = wide_dot s side _ _
  go (Border side) is = wide_stroke s side false _
  go (Edge number across) is = wide_owned s number across (mark_of s.position number)
      (subst (HasEdgeBelow 1000) is (edges_small r row column some few low left))

-- ---- sheets

wide_label : (sheet : Sheet) (row : ℕ)
    → row < 999
    → Wide (label_width sheet) (label_text sheet row)
wide_label (Cells width height) row few = wide_and 3 1 (padded (row + 1)) (codes " ")
    (wide_padded (row + 1) (omega (arith, few))) (wide_plain (codes " ") refl)
wide_label (Paper rows) row few = wide_none

wide_place : (sheet : Sheet) (s : Shown) (row column : ℕ)
    → IsSheet sheet
    → row < height_of sheet
    → column < width_of sheet
    → Wide 3 (place_text sheet s row column)
wide_place (Cells width height) s row column is low left =
    wide_marked s (row * width + column) (codes " . ") (wide_plain (codes " . ") refl)
wide_place (Paper rows) s row column is low left =
    wide_spot rows s row column is.0 is.1 low left

few_in_sheet : (sheet : Sheet) → IsSheet sheet → (width_of sheet ≤ 256) × (height_of sheet ≤ 256)
few_in_sheet (Cells width height) is = (is.1, is.2)
few_in_sheet (Paper rows) is = let few = is.1 in (omega (arith, few), omega (arith, few))

narrow_label : (sheet : Sheet) → label_width sheet ≤ 4
narrow_label (Cells width height) = omega arith
narrow_label (Paper rows) = omega arith

whole_row : (most : ℕ) (sheet : Sheet) (s : Shown) (part : Part) (row : ℕ)
    → IsSheet sheet
    → row < height_of sheet
    → part.first + part.count ≤ width_of sheet
    → label_width sheet + 3 * part.count ≤ most
    → Whole most (row_text sheet s part row)
unfolding row_text
whole_row most sheet s part row is low within few =
    let short = few_in_sheet sheet is in
    let cells = flat_map (λ i. place_text sheet s row (part.first + i))
    (range_with_len 0 part.count) in
    whole_line most (label_width sheet + (3 * part.count + 0))
    (label_text sheet row ++ (cells ++ codes "\n")) (omega (arith, few))
    (ends_and most (label_width sheet) (3 * part.count + 0) (label_text sheet row)
    (cells ++ codes "\n") (wide_label sheet row (omega (arith, low, short.1)))
    (ends_and most (3 * part.count) 0 cells (codes "\n")
    (wide_each 3 (λ i. place_text sheet s row (part.first + i)) 0 part.count
    (λ k from below. wide_place sheet s row (part.first + k) is low
    (omega (arith, below, within)))) (ends_feed most)))

-- a column's title
wide_title : (column : ℕ) → Wide 3 (title_text column)
wide_title column = go (nat_le 26 column) refl where
  go : (far : Bool) → nat_le 26 column ≡ far → Wide 3 (title_text column)
  go true is =
      let high : 26 ≤ column = grind (arith, nat_tests, is) in
      let not : nat_lt column 26 ≡ false = grind (arith, nat_tests, high) in
      subst
      (λ (b : Bool). Wide 3 ((if b then codes " " else []) ++ (column_name column ++ codes " ")))
      (sym not)
      (wide_and 2 1 (column_name column) (codes " ") (wide_column column true is)
      (wide_plain (codes " ") refl))
  go false is =
      let low : column < 26 = grind (arith, nat_tests, is) in
      let does : nat_lt column 26 ≡ true = grind (arith, nat_tests, low) in
      subst
      (λ (b : Bool). Wide 3 ((if b then codes " " else []) ++ (column_name column ++ codes " ")))
      (sym does)
      (wide_and 1 2 (codes " ") (column_name column ++ codes " ") (wide_plain (codes " ") refl)
      (wide_and 1 1 (column_name column) (codes " ") (wide_column column false is)
      (wide_plain (codes " ") refl)))

whole_titles : (most : ℕ) (part : Part) → 4 + 3 * part.count ≤ most → Whole most (titles_text part)
unfolding titles_text
whole_titles most part few =
    let titles = flat_map (λ i. title_text (part.first + i)) (range_with_len 0 part.count) in
    whole_line most (4 + (3 * part.count + 0)) (codes "    " ++ (titles ++ codes "\n"))
    (omega (arith, few))
    (ends_and most 4 (3 * part.count + 0) (codes "    ") (titles ++ codes "\n")
    (wide_plain (codes "    ") refl)
    (ends_and most (3 * part.count) 0 titles (codes "\n")
    (wide_each 3 (λ i. title_text (part.first + i)) 0 part.count
    (λ k from below. wide_title (part.first + k))) (ends_feed most)))

whole_next : (most : ℕ) → 80 ≤ most → Whole most NEXT_PART.now
unfolding rows_keep
whole_next most wide = whole_rows most NEXT_PART.now wide refl

whole_heading : (most : ℕ) (sheet : Sheet) (part : Part)
    → 80 ≤ most
    → label_width sheet + 3 * part.count ≤ most
    → Whole most (heading_text sheet part)
whole_heading most (Cells width height) part wide few = whole_titles most part few
whole_heading most (Paper rows) part wide few = go (part.first == 0) where
  go : (first : Bool) → Whole most (if first then [] else NEXT_PART.now)
  go true = whole_none most
  go false = whole_next most wide

whole_part : (sheet : Sheet) (s : Shown) (first : ℕ)
    → IsSheet sheet
    → 80 ≤ s.look.columns
    → first < width_of sheet
    → Whole s.look.columns (part_text sheet s first)
unfolding part_text rows_text
whole_part sheet s first is wide inside =
    go (first % many_columns sheet s.look.columns == 0) where
      part : Part
      part = part_at sheet s.look.columns first

      few : label_width sheet + 3 * part.count ≤ s.look.columns
      few = let narrow = narrow_label sheet in omega (arith, narrow, wide)

      within : part.first + part.count ≤ width_of sheet
      within = omega (arith, inside)

      go : (begins : Bool) → Whole s.look.columns
          (if begins then heading_text sheet part ++ rows_text sheet s part else [])
      go true = whole_and s.look.columns (heading_text sheet part) (rows_text sheet s part)
          (whole_heading s.look.columns sheet part wide few)
          (whole_each s.look.columns (row_text sheet s part) 0 (height_of sheet)
          (λ row from low. whole_row s.look.columns sheet s part row is (omega (arith, low)) within
          few))
      go false = whole_none s.look.columns

pub whole_sheet : (sheet : Sheet) (s : Shown)
    → IsSheet sheet
    → 80 ≤ s.look.columns
    → Whole s.look.columns (sheet_text sheet s)
unfolding sheet_text
whole_sheet sheet s is wide = whole_each s.look.columns (part_text sheet s) 0 (width_of sheet)
    (λ first from low. whole_part sheet s first is wide (omega (arith, low)))

-- ---- entries in rows

-- the place in its row of the piece after a piece that doesn't end its row
next_place : (k per : ℕ)
    → 0 < per
    → ((k + 1) % per == 0) ≡ false
    → (k + 1) % per ≡ suc (k % per)
next_place k per some inside =
    let below : suc (k % per) ≤ per = mod_below k per some in
    let step : (k + 1) % per ≡ suc (k % per) % per =
    let on : k + 1 ≡ suc k = omega arith in ap (λ (n : ℕ). n % per) on ∙ suc-mod k per in
    elim (cases_eq (suc (k % per)) per) [
      | inl same ↦
          let none : (k + 1) % per ≡ 0 = step ∙ ap (λ (n : ℕ). n % per) same ∙ mod_self per in
          absurd (true≢false (sym (eq-eqb _ _ none) ∙ inside))
      | inr other ↦ step ∙ mod-eq_of_lt (lt_of_le-ne below other)
    ]

-- pieces of at most so many columns, and the end of a line after each `per`
module _ (most width per points : ℕ) (f : ℕ → Bytes) where
  -- a piece from a column of its row, and the end of the row if it is the last one
  one_piece : (first many at : ℕ) (t : Bytes)
      → 0 < per
      → per * width ≤ most
      → Wide width (f first)
      → first + suc many ≡ points
      → at ≤ width * (first % per)
      → ((column : ℕ) → (0 < many → column ≤ width * ((first + 1) % per))
      → (many ≡ 0 → column ≡ 0) → keeps most column false t ≡ true)
      → keeps most at false (f first ++ (row_end points per first ++ t)) ≡ true
  one_piece first many at t some few wide count low on =
      wide most at (row_end points per first ++ t)
      (go ((first + 1) % per == 0 || first + 1 == points) refl) where
        room : at + width ≤ most
        room =
            let below : suc (first % per) ≤ per = mod_below first per some in
            let row : width * suc (first % per) ≤ width * per = mul-le-mul_left width below in
            omega (arith, low, row, few)

        go : (ends : Bool)
            → ((first + 1) % per == 0 || first + 1 == points) ≡ ends
            → keeps most (at + width) false ((if ends then codes "\n" else []) ++ t) ≡ true
        go true is = ends_feed most (at + width) (omega (arith, room)) t
            (on 0 (λ more. omega arith) (λ none. refl))
        go false is =
            let parts = or_parts _ _ is in
            let next = next_place first per some parts.0 in
            let grown : width * ((first + 1) % per) ≡ width * suc (first % per) =
            ap (λ (k : ℕ). width * k) next in
            on (at + width) (λ more. omega (arith, low, grown))
            (λ none. absurd (true≢false
            (sym (eq-eqb _ _ (let e : first + 1 ≡ points = omega (arith, count, none) in e))
            ∙ parts.1)))

  all_pieces : (first many at : ℕ) (t : Bytes)
      → 0 < per
      → per * width ≤ most
      → ((k : ℕ) → k < points → Wide width (f k))
      → first + many ≡ points
      → (0 < many → at ≤ width * (first % per))
      → (many ≡ 0 → at ≡ 0)
      → keeps most 0 false t ≡ true
      → keeps most at false
      (flat_map (λ k. f k ++ row_end points per k) (range_with_len first many) ++ t) ≡ true
  all_pieces first zero at t some few each count low none h =
      ap (λ (column : ℕ). keeps most column false t) (none refl) ∙ h
  all_pieces first (suc many) at t some few each count low none h =
      let rest = flat_map (λ k. f k ++ row_end points per k) (range_with_len (first + 1) many) in
      ap (keeps most at false) (append_assoc (f first ++ row_end points per first) rest t)
      ∙ ap (keeps most at false) (append_assoc (f first) (row_end points per first) (rest ++ t))
      ∙ one_piece first many at (rest ++ t) some few (each first (omega (arith, count))) count
      (low (omega arith))
      (λ column before last. all_pieces (first + 1) many column t some few each
      (omega (arith, count)) before last h)

  pub whole_in_rows : 0 < per
      → per * width ≤ most
      → ((k : ℕ) → k < points → Wide width (f k))
      → Whole most (flat_map (λ k. f k ++ row_end points per k) (range_with_len 0 points))
  whole_in_rows some few each = λ t h.
      all_pieces 0 points 0 t some few each (omega arith) (λ more. omega arith) (λ none. refl) h

wide_point : (s : Shown) (v : ℕ) → v < 1000 → Wide 5 (point_text s v)
wide_point s v few = wide_and 1 4 (codes " ")
    ((if is_free s.position v then padded v else marked s v []) ++ codes " ")
    (wide_plain (codes " ") refl)
    (wide_and 3 1 (if is_free s.position v then padded v else marked s v []) (codes " ")
    (go (is_free s.position v)) (wide_plain (codes " ") refl)) where
      go : (free : Bool) → Wide 3 (if free then padded v else marked s v [])
      go true = wide_padded v few
      go false = wide_marked s v [] (wide_less 0 3 [] (omega arith) wide_none)

-- what holds of each member holds of the one at a place
holds_at : {X : Type 0} (P : X → Type 0) (xs : List X) (k : ℕ) (x : X)
    → All P xs
    → slice_get xs k ≡ Some x
    → P x
holds_at P xs k x all at =
    let inside = slice_get_within xs k x at in
    let same : get_or xs k x ≡ x = same_Some _ _ (sym (slice_get-get_or xs k x inside) ∙ at) in
    subst P same (all k x inside)

wide_pair : (h : Graph) (ends : Option (ℕ × ℕ)) (edge : ℕ)
    → IsBoard h
    → slice_get h.ends edge ≡ ends
    → Wide 7 (pair_text ends)
wide_pair h None edge is at = wide_less 0 7 [] (omega arith) wide_none
wide_pair h (Some e) edge is at =
    let range = holds_at (λ (ends : ℕ × ℕ). (ends.0 < h.vertices) × (ends.1 < h.vertices))
    h.ends edge e is.ends at in
    let most = is.few_vertices in
    wide_and 3 4 (padded e.0) (codes "-" ++ padded_right e.1)
    (wide_padded e.0 (omega (arith, range.0, most)))
    (wide_and 1 3 (codes "-") (padded_right e.1) (wide_plain (codes "-") refl)
    (wide_padded_right e.1 (omega (arith, range.1, most))))

wide_edge : (h : Graph) (s : Shown) (edge : ℕ)
    → IsBoard h
    → edge < 1000
    → Wide 16 (edge_text h s edge)
wide_edge h s edge is few =
    let mark = marked s edge (codes " . ") ++ codes "  " in
    wide_and 3 13 (padded edge) (codes ":" ++ (ends_text h.ends edge ++ mark))
    (wide_padded edge few)
    (wide_and 1 12 (codes ":") (ends_text h.ends edge ++ mark) (wide_plain (codes ":") refl)
    (wide_and 7 5 (ends_text h.ends edge) mark
    (wide_pair h (slice_get h.ends edge) edge is refl)
    (wide_and 3 2 (marked s edge (codes " . ")) (codes "  ")
    (wide_marked s edge (codes " . ") (wide_plain (codes " . ") refl))
    (wide_plain (codes "  ") refl))))

pub whole_entries : (g : Game) (s : Shown)
    → 80 ≤ s.look.columns
    → Whole s.look.columns (entries_text g s)
unfolding entries_text entry_in_row
whole_entries g s wide =
    whole_in_rows s.look.columns (entry_width g.field) (in_row g.field s.look.columns)
    (point_count g) (entry_text g.field s) (omega arith) (fill g.field)
    (λ v inside. entry g.field refl v (omega (arith, inside, point_count-le g))) where
      fill : (field : Field) → in_row field s.look.columns * entry_width field ≤ s.look.columns
      fill (Lines f) = omega (arith, wide)
      fill (OnGraph h) = omega (arith, wide)

      entry : (field : Field)
          → g.field ≡ field
          → (v : ℕ) → v < 1000
          → Wide (entry_width field) (entry_text field s v)
      entry (Lines f) is v few = wide_point s v few
      entry (OnGraph h) is v few = wide_edge h s v (g.fits.within.on_graph h is) few

-- ---- boards
