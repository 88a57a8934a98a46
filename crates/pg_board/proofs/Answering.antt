-- What a board that fits answers.
use Rattle.std.proofs.Common.{◌≡◌, ◌≢◌, ℕ, zero, suc, ◌+◌, ◌<◌, ◌≤◌, Bool, true, false, not, ◌||◌}
use Rattle.std.proofs.Common.{List, [], ◌∷◌, length, get_or, eqb, refl, sym, ap, ◌∙◌, arith, inl}
use Rattle.std.proofs.Common.{inr, subst}
use Rattle.std.specs.Prelude.{slice_get, IfSome}
use Rattle.pg_board.proofs.Common.{cases_Bool, ne_eqb, Contains-append_right, count_by, find}
use Rattle.pg_board.proofs.Common.{list_any, Contains, contains, insert, one_if, Side, X, Y}
use Rattle.pg_board.proofs.Common.{is_free, points_of, present, first_of_all, Cells}
use Rattle.pg_board.specs.Shape.{Shape, line_in}
use Rattle.pg_board.specs.Counts.{count_in, is_clear, clear_lines}
use Rattle.pg_board.specs.Fits.{Rules, Fits, pick, live_lines_in, free_points_in, position_of}
use Rattle.pg_board.specs.Fits.{has_mark, set_below, turn_of, left_of}
use Rattle.pg_board.proofs.Ranges.{filter-same, count-cons, filtered-below}

-- ---- lines without a point

pub clear-any : (a : ℕ → Bool) (line : List ℕ) → eqb (count_by a line) 0 ≡ not (list_any a line)
clear-any a [] = refl
clear-any a (x ∷ line) =
    let first = count-cons a x line in
    let rest = clear-any a line in
    elim (cases_Bool (a x)) [
      | inl on ↦
          let one = ap one_if on in
          ne_eqb (count_by a (x ∷ line)) 0 (λ e. omega arith)
          ∙ sym (ap (λ b. not (b || list_any a line)) on)
      | inr off ↦
          let none = ap one_if off in
          let same : count_by a (x ∷ line) ≡ count_by a line = omega arith in
          ap (λ n. eqb n 0) same ∙ (rest ∙ sym (ap (λ b. not (b || list_any a line)) off))
    ]

pub live-is : (r : Rules) (t : Cells) (x y free : List (List ℕ))
    → Fits r t x y free
    → (k : Side) → present (pick k x y) ≡ live_lines_in r.shape (position_of r.shape t.cells) k
unfolding clear_lines live_lines_in
live-is r t x y free fits k = fits.live k
    ∙ sym (filter-same (is_clear (count_in r.shape t.cells) k)
    (λ i. not (list_any (contains (points_of (position_of r.shape t.cells) k)) (line_in r.shape i)))
    0 (length r.shape.lines) (λ i low high.
    sym (clear-any (contains (points_of (position_of r.shape t.cells) k)) (line_in r.shape i))
    ∙ sym (ap (λ n. eqb n 0) (fits.counts k i (omega arith)))))

-- ---- small numbers

pub find-small : (t : ℕ → Bool) (xs : List ℕ) (n : ℕ)
    → ((x : ℕ) → Contains xs x → x < n)
    → IfSome (find t xs) (λ x. x < n)
find-small t [] n small = tt
find-small t (x ∷ xs) n small = elim (cases_Bool (t x)) [
  | inl on ↦ rw on (small x (0, omega arith, refl))
  | inr off ↦
      rw off (find-small t xs n (λ y inside. small y (Contains-append_right (x ∷ []) xs y inside)))
]

pub free-small : (r : Rules) (t : Cells) (x y free : List (List ℕ))
    → Fits r t x y free
    → (v : ℕ) → Contains (present free) v
    → v < 65536
unfolding free_points_in
free-small r t x y free fits v inside =
    let low = filtered-below (is_free (position_of r.shape t.cells)) r.shape.points v
    (subst (λ xs. Contains xs v) fits.free_is inside) in
    omega (arith, fits.shape.few_points)

pub first-small : (r : Rules) (t : Cells) (x y free : List (List ℕ))
    → Fits r t x y free
    → IfSome (slice_get (present free) 0) (λ v. v < 65536)
first-small r t x y free fits =
    subst (λ o. IfSome o (λ v. v < 65536)) (sym (first_of_all (present free)))
    (find-small (λ _. true) (present free) 65536 (free-small r t x y free fits))

-- a line's count is small
pub count-small : (r : Rules) (t : Cells) (x y free : List (List ℕ))
    → Fits r t x y free
    → (k : Side) (i : ℕ) → i < length r.shape.lines
    → count_in r.shape t.cells k i ≤ 100
count-small r t x y free fits X i low =
    let within = fits.counted.within i low in
    let line = fits.shape.lines i [] low in
    omega (arith, line.short, fits.shape.few_long)
count-small r t x y free fits Y i low =
    let within = fits.counted.within i low in
    let line = fits.shape.lines i [] low in
    omega (arith, line.short, fits.shape.few_long)

-- ---- marks

pub set_below-none : (t : ℕ → Bool) → set_below t 0 ≡ Rattle.std.specs.FinSet.empty
unfolding set_below
set_below-none t = refl

pub set_below-on : (t : ℕ → Bool) (n : ℕ)
    → t n ≡ true
    → insert (set_below t n) n ≡ set_below t (n + 1)
unfolding set_below
set_below-on t n on = let at : n + 1 ≡ suc n = omega arith in rw (at, on) refl

pub set_below-off : (t : ℕ → Bool) (n : ℕ) → t n ≡ false → set_below t n ≡ set_below t (n + 1)
unfolding set_below
set_below-off t n off = let at : n + 1 ≡ suc n = omega arith in rw (at, off) refl

pub left-x : (cell : ℕ) → cell ≡ 0 → 1 ≡ left_of cell
unfolding left_of
left-x cell none = sym (ap left_of none)

pub left-y : (cell : ℕ) → cell ≢ 0 → cell ≡ left_of cell
unfolding left_of
left-y zero some = absurd (some refl)
left-y (suc k) some = refl

pub position-is : (s : Shape) (cells : List ℕ)
    → position_of s cells ≡ record {
      x = set_below (has_mark cells X) s.points;
      y = set_below (has_mark cells Y) s.points;
      turn = turn_of (get_or cells 0 0);
      left = left_of (get_or cells 0 0);
    }
unfolding position_of
position-is s cells = refl
