-- The board of the empty position.
use Rattle.std.proofs.Common.{◌≡◌, ◌≢◌, ℕ, ◌+◌, ◌^◌, ◌<◌, ◌≤◌, Bool, true, false, ◌&&◌, List, []}
use Rattle.std.proofs.Common.{◌∷◌, length, get_or, set, replicate, eqb, refl, sym, ap, ◌∙◌, arith}
use Rattle.std.proofs.Common.{inl, inr, subst, length-append}
use Rattle.pg_board.proofs.Common.{cases_Bool, cases_eq, cases_lt, eq-eqb, ne_eqb, le-ltb, and_left}
use Rattle.pg_board.proofs.Common.{and_right, get_or-set_same, get_or-set_other, length-set}
use Rattle.pg_board.proofs.Common.{get_or-replicate, length-replicate, length-filter, count_by}
use Rattle.pg_board.proofs.Common.{filter, range_with_len, contains, one_if, Side, X, Y, Position}
use Rattle.pg_board.proofs.Common.{is_free, points_of, present, Cells}
use Rattle.pg_board.specs.Shape.{Shape, IsShape, line_in, mark_cell, count_cell, free_cell}
use Rattle.pg_board.specs.Shape.{cell_count}
use Rattle.pg_board.specs.Counts.{count_in, lines_in, lines_with, has_free, is_clear, clear_lines}
use Rattle.pg_board.specs.Counts.{free_by}
use Rattle.pg_board.specs.Fits.{Rules, pick, has_mark, mark_of, position_of, entries_of}
use Rattle.pg_board.specs.Fits.{free_points_in}
use Rattle.pg_board.specs.Opening.{AreBlank, Opens, whole_room}
use Rattle.pg_board.specs.declared.rings.Rings.{Rings}
use Rattle.pg_board.proofs.CellPlaces.{mark_cell-is, mark-within, count_cell-high, free_cell-low}
use Rattle.pg_board.proofs.CellPlaces.{free_cell-within, free_cell-apart, free_cell-sides}
use Rattle.pg_board.proofs.Ranges.{filter-same, count-same, count-cons, count-few, filter-on}
use Rattle.pg_board.proofs.Ranges.{filter-off}
use Rattle.pg_board.proofs.Decoding.{has-points}
use Rattle.pg_board.proofs.Positions.{summed-same}

count-next : (p : ℕ → Bool) (n : ℕ)
    → count_by p (range_with_len 0 (n + 1)) ≡ count_by p (range_with_len 0 n) + one_if (p n)
count-next p n =
    let all = length-filter p (range_with_len 0 (n + 1)) in
    let rest = length-filter p (range_with_len 0 n) in
    elim (cases_Bool (p n)) [
      | inl on ↦
          let one = ap one_if on in
          let step = ap length (filter-on p 0 n n (omega arith) on) in
          let more = length-append (filter p (range_with_len 0 n)) (n ∷ []) in
          omega arith
      | inr off ↦
          let none = ap one_if off in
          let step = ap length (filter-off p 0 n n (omega arith) off) in
          omega arith
    ]

pub blank-none : (s : Shape) → AreBlank s 0 (replicate (cell_count s) 0)
unfolding cell_count
blank-none s = record {
  width = length-replicate (cell_count s) 0;
  zeros = λ k low. get_or-replicate (cell_count s) k 0 0 (omega arith);
  counted = λ k f short. get_or-replicate (cell_count s) (free_cell s k f) 0 0
      (free_cell-within s k f short);
}

pub blank-few : (s : Shape) (i : ℕ) (cells : List ℕ) (k : Side) (f : ℕ)
    → AreBlank s i cells
    → f ≤ s.longest
    → i ≤ 20000
    → lines_in s cells k f ≤ 20000
blank-few s i cells k f blank short few =
    let at = blank.counted k f short in
    let low = count-few (λ j. eqb (length (line_in s j)) f) 0 i in
    omega arith

-- what X's cell leaves of Y's
pub blank-theirs : (s : Shape) (cells : List ℕ) (f n : ℕ)
    → f ≤ s.longest
    → lines_in s (set cells (free_cell s X f) n) Y f ≡ lines_in s cells Y f
blank-theirs s cells f n short = get_or-set_other cells (free_cell s X f) (free_cell s Y f) n 0
    (free_cell-sides s X f f short short)

pub blank-more : (s : Shape) (i : ℕ) (cells one two : List ℕ) (f : ℕ)
    → AreBlank s i cells
    → f ≡ length (line_in s i)
    → f ≤ s.longest
    → one ≡ set cells (free_cell s X f) (lines_in s cells X f + 1)
    → two ≡ set one (free_cell s Y f) (lines_in s one Y f + 1)
    → AreBlank s (i + 1) two
blank-more s i cells one two f blank len short first second =
    let x_within = free_cell-within s X f short in
    let y_within = free_cell-within s Y f short in
    let x_low = free_cell-low s X f in
    let y_low = free_cell-low s Y f in
    let one_width : length one ≡ length cells = ap length first ∙ length-set cells _ _ in
    let one_at : (k : ℕ) → k ≢ free_cell s X f → get_or one k 0 ≡ get_or cells k 0 = λ k apart.
    ap (λ c. get_or c k 0) first ∙ get_or-set_other cells (free_cell s X f) k _ 0 apart in
    let two_at : (k : ℕ) → k ≢ free_cell s Y f → get_or two k 0 ≡ get_or one k 0 =
    λ k apart. ap (λ c. get_or c k 0) second ∙ get_or-set_other one (free_cell s Y f) k _ 0 apart in
    let width = blank.width in
    record {
      width = ap length second ∙ (length-set one _ _ ∙ (one_width ∙ width));
      zeros =
          λ k low. two_at k (λ e. omega arith) ∙ (one_at k (λ e. omega arith) ∙ blank.zeros k low);
      counted = λ k h h_short.
          let next = count-next (λ j. eqb (length (line_in s j)) h) i in
          let same = ap (λ m. one_if (eqb m h)) len in
          let before = blank.counted k h h_short in
          by_side k h h_short next same before;
    }
  where
    in_x : (h : ℕ) → h ≤ s.longest → lines_in s two X h ≡ lines_in s cells X h + one_if (eqb f h)
    in_x h h_short =
        let within = free_cell-within s X f short in
        let at_two : get_or two (free_cell s X h) 0 ≡ get_or one (free_cell s X h) 0 =
        ap (λ c. get_or c (free_cell s X h) 0) second
        ∙ get_or-set_other one (free_cell s Y f) (free_cell s X h) _ 0
        (λ e. free_cell-sides s X f h short h_short (sym e)) in
        elim (cases_eq h f) [
          | inl e ↦
              let here : get_or one (free_cell s X h) 0 ≡ lines_in s cells X f + 1 =
              ap (λ k. get_or one (free_cell s X k) 0) e
              ∙ (ap (λ c. get_or c (free_cell s X f) 0) first
              ∙ get_or-set_same cells (free_cell s X f) (lines_in s cells X f + 1) 0 (omega (
                arith,
                blank.width,
              ))) in
              let same : lines_in s cells X h ≡ lines_in s cells X f = ap (lines_in s cells X) e in
              let one_is : one_if (eqb f h) ≡ 1 = ap one_if (eq-eqb f h (sym e)) in
              omega arith
          | inr ne ↦
              let there : get_or one (free_cell s X h) 0 ≡ lines_in s cells X h =
              ap (λ c. get_or c (free_cell s X h) 0) first
              ∙ get_or-set_other cells (free_cell s X f) (free_cell s X h) _ 0
              (free_cell-apart s X h f ne) in
              let none_is : one_if (eqb f h) ≡ 0 = ap one_if (ne_eqb f h (λ e. ne (sym e))) in
              omega arith
        ]

    in_y : (h : ℕ) → h ≤ s.longest → lines_in s two Y h ≡ lines_in s cells Y h + one_if (eqb f h)
    in_y h h_short =
        let within = free_cell-within s Y f short in
        let one_width : length one ≡ length cells = ap length first ∙ length-set cells _ _ in
        let at_one : (k : ℕ) → k ≤ s.longest
        → get_or one (free_cell s Y k) 0 ≡ lines_in s cells Y k =
        λ k k_short. ap (λ c. get_or c (free_cell s Y k) 0) first
        ∙ get_or-set_other cells (free_cell s X f) (free_cell s Y k) _ 0
        (free_cell-sides s X k f k_short short) in
        let at_h = at_one h h_short in
        let at_f = at_one f short in
        elim (cases_eq h f) [
          | inl e ↦
              let here : get_or two (free_cell s Y h) 0 ≡ lines_in s one Y f + 1 =
              ap (λ k. get_or two (free_cell s Y k) 0) e
              ∙ (ap (λ c. get_or c (free_cell s Y f) 0) second
              ∙ get_or-set_same one (free_cell s Y f) (lines_in s one Y f + 1) 0 (omega (
                arith,
                blank.width,
              ))) in
              let same : lines_in s cells Y h ≡ lines_in s cells Y f = ap (lines_in s cells Y) e in
              let one_is : one_if (eqb f h) ≡ 1 = ap one_if (eq-eqb f h (sym e)) in
              omega arith
          | inr ne ↦
              let there : get_or two (free_cell s Y h) 0 ≡ get_or one (free_cell s Y h) 0 =
              ap (λ c. get_or c (free_cell s Y h) 0) second
              ∙ get_or-set_other one (free_cell s Y f) (free_cell s Y h) _ 0
              (free_cell-apart s Y h f ne) in
              let none_is : one_if (eqb f h) ≡ 0 = ap one_if (ne_eqb f h (λ e. ne (sym e))) in
              omega arith
        ]

    by_side : (k : Side) (h : ℕ)
        → h ≤ s.longest
        → count_by (λ j. eqb (length (line_in s j)) h) (range_with_len 0 (i + 1))
        ≡ count_by (λ j. eqb (length (line_in s j)) h) (range_with_len 0 i)
        + one_if (eqb (length (line_in s i)) h)
        → one_if (eqb f h) ≡ one_if (eqb (length (line_in s i)) h)
        → lines_in s cells k h ≡ count_by (λ j. eqb (length (line_in s j)) h) (range_with_len 0 i)
        → lines_in s two k h
        ≡ count_by (λ j. eqb (length (line_in s j)) h) (range_with_len 0 (i + 1))
    by_side X h h_short next same before = let at = in_x h h_short in omega arith
    by_side Y h h_short next same before = let at = in_y h h_short in omega arith

-- ---- the blank board fits

count-none : (a : ℕ → Bool) (xs : List ℕ) → ((q : ℕ) → a q ≡ false) → count_by a xs ≡ 0
count-none a [] none = refl
count-none a (x ∷ xs) none =
    let first = count-cons a x xs in
    let rest = count-none a xs none in
    let off = ap one_if (none x) in
    omega arith

filter-all : (p : ℕ → Bool) (a n : ℕ)
    → ((j : ℕ) → a ≤ j → j < a + n → p j ≡ true)
    → range_with_len a n ≡ filter p (range_with_len a n)
filter-all p a n on = sym (all (range_with_len a n))
    ∙ filter-same p (λ _. true) a n (λ j low high. sym (on j low high))
  where
    all : (xs : List ℕ) → filter (λ (_ : ℕ). true) xs ≡ xs
    all [] = refl
    all (x ∷ xs) = ap (λ (ys : List ℕ). x ∷ ys) (all xs)

pub blank-opens : (r : Rules) (p : Position) (t : Cells) (rings : Rings)
    → IsShape r.shape
    → 1 ≤ r.bias
    → r.bias ≤ 7
    → (1 + r.bias) ^ r.shape.longest ≤ 2 ^ 100
    → AreBlank r.shape (length r.shape.lines) t.cells
    → rings.live_x ≡ range_with_len 0 (length r.shape.lines) ∷ []
    → rings.live_y ≡ range_with_len 0 (length r.shape.lines) ∷ []
    → rings.free ≡ range_with_len 0 r.shape.points ∷ []
    → whole_room r.shape ≤ t.spare
    → Opens r p 0 t rings
unfolding clear_lines free_points_in whole_room lines_with has_free has_mark
blank-opens r p t rings shape some few few_weights blank x_is y_is free_is room =
    let s = r.shape in
    let q = position_of s t.cells in
    let zero_count : (k : Side) (i : ℕ) → i < length s.lines → count_in s t.cells k i ≡ 0 =
    λ k i low. blank.zeros (count_cell s k i) (count_cell-high s k i low) in
    let no_mark : (k : Side) (v : ℕ) → v < s.points → has_mark t.cells k v ≡ false = λ k v low.
    let at = mark_cell-is v in
    ap (λ m. eqb m (mark_of k)) (blank.zeros (mark_cell v) (omega arith))
    ∙ ne_eqb 0 (mark_of k) (λ e. some_mark k e) in
    let none : (k : Side) (v : ℕ) → contains (points_of q k) v ≡ false =
    λ k v. has-points s t.cells k v
    ∙ (elim (cases_lt v s.points) [
      | inl lt ↦ and_right _ _ (no_mark k v lt)
      | inr ge ↦ and_left _ _ (le-ltb v s.points ge)
    ]) in
    let all_free : (v : ℕ) → is_free q v ≡ true = λ v.
    let x_off : contains q.x v ≡ false = none X v in
    let y_off : contains q.y v ≡ false = none Y v in rw (x_off, y_off) refl in
    let all_clear : (k : Side) (i : ℕ) → 0 ≤ i → i < 0 + length s.lines
    → is_clear (count_in s t.cells) k i ≡ true =
    λ k i low high. eq-eqb _ _ (zero_count k i (omega arith)) in
    let whole = summed-same (entries_of s) (λ _. true) (is_free q) s.points (λ v low. all_free v) in
    let start = mark-within s 0 (omega arith) in
    record {
      fits = record {
        shape = shape;
        some_bias = some;
        few_bias = few;
        few_weights = few_weights;
        turn = (let at = blank.zeros 0 (omega arith) in omega arith);
        counted = record {
          width = blank.width;
          within =
              λ i low. (let a = zero_count X i low in let b = zero_count Y i low in omega arith);
          lines = λ k f f_short. blank.counted k f f_short
              ∙ sym (count-same (λ i. eqb (length (line_in s i)) f)
              (λ i. is_clear (count_in s t.cells) k i && eqb (free_by s (count_in s t.cells) i) f) 0
              (length s.lines) (λ i low high.
              let a = zero_count X i (omega arith) in
              let b = zero_count Y i (omega arith) in
              let clear = all_clear k i (omega arith) (omega arith) in
              let whole_line : free_by s (count_in s t.cells) i ≡ length (line_in s i) =
              omega arith in
              rw clear (ap (λ m. eqb m f) whole_line)));
        };
        counts = λ k i low. zero_count k i low
            ∙ sym (count-none (contains (points_of q k)) (line_in s i) (none k));
        live = λ k. by_side k
            (filter-all (is_clear (count_in s t.cells) k) 0 (length s.lines) (all_clear k));
        free_is = ap present free_is ∙ filter-all (is_free q) 0 s.points (λ v low high. all_free v);
        some_live = one_list;
        some_free = subst (λ (ls : List (List ℕ)). 1 ≤ length ls) (sym free_is) (omega arith);
        room = omega arith;
      };
      marks = λ k v. none k v ∙ sym (and_right _ _ (le-ltb v 0 (omega arith)));
      room = omega arith;
    }
  where
    some_mark : (k : Side) → 0 ≡ mark_of k → ⊥
    some_mark X e = omega arith
    some_mark Y e = omega arith

    by_side : (k : Side)
        → range_with_len 0 (length r.shape.lines)
        ≡ filter (is_clear (count_in r.shape t.cells) k) (range_with_len 0 (length r.shape.lines))
        → present (pick k rings.live_x rings.live_y)
        ≡ filter (is_clear (count_in r.shape t.cells) k) (range_with_len 0 (length r.shape.lines))
    by_side X all = ap present x_is ∙ all
    by_side Y all = ap present y_is ∙ all

    one_list : (k : Side) → 1 ≤ length (pick k rings.live_x rings.live_y)
    one_list X = subst (λ (ls : List (List ℕ)). 1 ≤ length ls) (sym x_is) (omega arith)
    one_list Y = subst (λ (ls : List (List ℕ)). 1 ≤ length ls) (sym y_is) (omega arith)
