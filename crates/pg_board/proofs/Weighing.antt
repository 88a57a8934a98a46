-- The weights of a board's lines, by the cells.
use Rattle.std.proofs.Common.{◌≡◌, ◌≢◌, ℕ, ◌+◌, ◌-◌, ◌*◌, ◌^◌, ◌<◌, ◌≤◌, max, map, ◌++◌, Bool, true}
use Rattle.std.proofs.Common.{false, not, ◌&&◌, List, [], ◌∷◌, length, get_or, take, eqb}
use Rattle.std.proofs.Common.{if◌then◌else◌, refl, sym, ap, ◌∙◌, arith, inl, inr}
use Rattle.pg_board.proofs.Common.{cases_Bool, eq-eqb, ne_eqb, sum_by-le, sum_by_more_le}
use Rattle.pg_board.proofs.Common.{pow-le-pow_right, All, count_by, sum_by, filter, range_with_len}
use Rattle.pg_board.proofs.Common.{contains, ShareNone, one_if, Side, X, Y, other, Position}
use Rattle.pg_board.proofs.Common.{is_free, points_of, is_touched, is_on, line_weight, greatest}
use Rattle.pg_board.proofs.Common.{points-le, line_weight-le}
use Rattle.pg_board.specs.Shape.{Shape, line_in, lines_through, lines_holding}
use Rattle.pg_board.specs.Counts.{count_in, lines_in, lines_with, has_free, is_clear, free_by}
use Rattle.pg_board.specs.Fits.{position_of, free_points_in}
use Rattle.pg_board.specs.Board.{is_live_with}
use Rattle.pg_board.specs.Totals.{live_with_in, in_base, total_in, weight_in, greatest_in, Agree}
use Rattle.pg_board.specs.Totals.{IsBase}
use Rattle.pg_board.proofs.Claiming.{sides-sum}
use Rattle.pg_board.proofs.Ranges.{count-cons, filter-on, filter-off}
use Rattle.pg_board.proofs.Answering.{clear-any}
use Rattle.pg_board.proofs.Walks.{disjoint-is}
use Rattle.pg_board.proofs.Digits.{in_base-next, in_base-same, in_base-rise, sum-classes, sum-all}
use Rattle.pg_board.proofs.Digits.{count-all, sum-filter}

-- ---- free points of a line

-- each point is one side's or free
pub free-rest : (p : Position) (line : List ℕ)
    → ShareNone p.x p.y
    → count_by (contains p.x) line + count_by (contains p.y) line + count_by (is_free p) line
    ≡ length line
free-rest p [] apart = refl
free-rest p (v ∷ line) apart =
    let rest = free-rest p line apart in
    let x_first = count-cons (contains p.x) v line in
    let y_first = count-cons (contains p.y) v line in
    let free_first = count-cons (is_free p) v line in
    elim (cases_Bool (contains p.x v)) [
      | inl on ↦
          let one = ap one_if on in
          let none = ap one_if (apart v on) in
          let taken : is_free p v ≡ false = rw on refl in
          let gone = ap one_if taken in
          omega arith
      | inr off ↦
          let none = ap one_if off in
          elim (cases_Bool (contains p.y v)) [
            | inl theirs ↦
                let one = ap one_if theirs in
                let taken : is_free p v ≡ false = rw (off, theirs) refl in
                let gone = ap one_if taken in
                omega arith
            | inr clear ↦
                let zero_is = ap one_if clear in
                let open_is : is_free p v ≡ true = rw (off, clear) refl in
                let one = ap one_if open_is in
                omega arith
          ]
    ]

module _ (s : Shape) (cells : List ℕ) (agree : Agree s cells) where
  p : Position
  p = position_of s cells

  -- the free points of a line, by the counts
  pub free-is : (i : ℕ)
      → i < length s.lines
      → free_by s (count_in s cells) i ≡ count_by (is_free (position_of s cells)) (line_in s i)
  free-is i low =
      let whole = free-rest (position_of s cells) (line_in s i) (disjoint-is s cells) in
      let x_is = agree.counts X i low in
      let y_is = agree.counts Y i low in
      omega arith

  -- whether a line is live, by the counts
  pub clear-is : (side : Side) (i : ℕ)
      → i < length s.lines
      → is_clear (count_in s cells) side i
      ≡ not (is_touched (points_of (position_of s cells) side) (line_in s i))
  clear-is side i low = ap (λ n. eqb n 0) (agree.counts side i low)
      ∙ clear-any (contains (points_of (position_of s cells) side)) (line_in s i)

  pub live-with-is : (side : Side) (f i : ℕ)
      → i < length s.lines
      → has_free s (count_in s cells) side f i
      ≡ is_live_with (position_of s cells) side f (line_in s i)
  unfolding has_free
  live-with-is side f i low = λ j. clear-is side i low j && eqb (free-is i low j) f

  -- the number of live lines with so many free points
  pub cell-is : (side : Side) (f : ℕ)
      → f ≤ s.longest
      → lines_in s cells side f ≡ live_with_in s (position_of s cells) side f
  unfolding lines_with live_with_in
  cell-is side f short = agree.counted.lines side f short
      ∙ count-all (has_free s (count_in s cells) side f)
      (is_live_with (position_of s cells) side f) s.lines (λ i low. live-with-is side f i low)

  -- ---- the weight of a line

  pub weight-by : (base : ℕ) (side : Side) (i : ℕ)
      → i < length s.lines
      → (if is_clear (count_in s cells) side i
      then base ^ (s.longest - free_by s (count_in s cells) i)
      else 0) ≡ line_weight base s.longest (points_of (position_of s cells) side)
      (position_of s cells) (line_in s i)
  unfolding line_weight
  weight-by base side i low =
      let clear = clear-is side i low in
      let free = free-is i low in
      let q = position_of s cells in
      let turned : (b : Bool) (n : ℕ) → (if not b then n else 0) ≡ (if b then 0 else n) = turn in
      (λ j. if clear j then base ^ (s.longest - free j) else 0)
      ∙ turned (is_touched (points_of q side) (line_in s i))
      (base ^ (s.longest - count_by (is_free q) (line_in s i)))
    where
      turn : (b : Bool) (n : ℕ) → (if not b then n else 0) ≡ (if b then 0 else n)
      turn true n = refl
      turn false n = refl

  short-free : (i : ℕ) → i < 0 + length s.lines → free_by s (count_in s cells) i ≤ s.longest
  short-free i low = let line = agree.shape.lines i [] (omega arith) in omega (arith, line.short)

  -- the total, by the numbers of live lines
  pub total-is : (base : ℕ) (side : Side)
      → in_base base (lines_in s cells side) (s.longest + 1)
      ≡ total_in base s (position_of s cells) side
  unfolding lines_with has_free total_in
  total-is base side =
      let c = count_in s cells in
      in_base-same base (lines_in s cells side)
      (λ f. count_by (has_free s c side f) (range_with_len 0 (length s.lines))) (s.longest + 1)
      (λ f low. agree.counted.lines side f (omega arith))
      ∙ (sum-classes base s.longest (is_clear c side) (free_by s c) 0 (length s.lines) short-free
      ∙ sum-all (λ i. if is_clear c side i then base ^ (s.longest - free_by s c i) else 0)
      (line_weight base s.longest (points_of (position_of s cells) side) (position_of s cells))
      s.lines (λ i low. weight-by base side i low))

  -- ---- bounds

  pub total-few : (base : ℕ) (side : Side)
      → IsBase base s
      → total_in base s (position_of s cells) side ≤ 2 ^ 115
  unfolding total_in
  total-few base side ok =
      let q = position_of s cells in
      let each : All (λ line. line_weight base s.longest (points_of q side) q line ≤ 2 ^ 100)
      s.lines = (λ i d lt.
      let le = line_weight-le base s.longest (points_of q side) q (get_or s.lines i d) ok.some in
      omega (arith, le, ok.few)) in
      omega (
        arith,
        sum_by-le (line_weight base s.longest (points_of q side) q) (2 ^ 100) s.lines each,
        agree.shape.few_lines,
      )

  -- one digit more keeps within the bound
  pub digit-fits : (base : ℕ) (side : Side) (i : ℕ)
      → IsBase base s
      → i ≤ s.longest
      → in_base base (lines_in s cells side) i * base + lines_in s cells side i ≤ 2 ^ 115
  digit-fits base side i ok low =
      let next = in_base-next base (lines_in s cells side) i in
      let rise = in_base-rise base (lines_in s cells side) (i + 1) (s.longest - i) ok.some in
      let at : (i + 1) + (s.longest - i) ≡ s.longest + 1 = omega arith in
      let whole = ap (in_base base (lines_in s cells side)) at ∙ total-is base side in
      omega (arith, next, rise, whole, total-few base side ok)

  -- ---- the weight of a point

  pub through-sum : (base : ℕ) (side : Side) (v : ℕ)
      → sum_by
      (λ i. line_weight base s.longest (points_of (position_of s cells) side) (position_of s cells)
      (line_in s i)) (lines_through s v) ≡ weight_in base s (position_of s cells) side v
  unfolding lines_through lines_holding weight_in
  through-sum base side v =
      let q = position_of s cells in
      let weight = λ (line : List ℕ). line_weight base s.longest (points_of q side) q line in
      sum-filter (λ i. weight (line_in s i)) (λ i. is_on v (line_in s i))
      (range_with_len 0 (length s.lines))
      ∙ sum-all (λ i. if is_on v (line_in s i) then weight (line_in s i) else 0)
      (λ line. if is_on v line then weight line else 0) s.lines (λ i low. refl)

  pub weight-few : (base : ℕ) (side : Side) (v : ℕ)
      → IsBase base s
      → weight_in base s (position_of s cells) side v ≤ 2 ^ 115
  unfolding weight_in total_in
  weight-few base side v ok =
      let q = position_of s cells in
      let le = points-le base s.longest (points_of q side) q v s.lines in
      omega (arith, le, total-few base side ok)

  -- the weight so far with one line more
  pub part-fits : (base : ℕ) (side : Side) (v j : ℕ)
      → IsBase base s
      → j < length (lines_through s v)
      → sum_by (λ i. line_weight base s.longest (points_of (position_of s cells) side)
      (position_of s cells) (line_in s i)) (take j (lines_through s v))
      + line_weight base s.longest (points_of (position_of s cells) side) (position_of s cells)
      (line_in s (get_or (lines_through s v) j 0)) ≤ 2 ^ 115
  part-fits base side v j ok low =
      let q = position_of s cells in
      let part = sum_by_more_le (λ i. line_weight base s.longest (points_of q side) q (line_in s i))
      (lines_through s v) j 0 low in
      omega (arith, part, through-sum base side v, weight-few base side v ok)

-- ---- the greatest weight

greatest-push : (f : ℕ → ℕ) (xs : List ℕ) (v : ℕ)
    → greatest (map f (xs ++ v ∷ [])) ≡ max (greatest (map f xs)) (f v)
greatest-push f [] v = omega arith
greatest-push f (x ∷ xs) v = let rest = greatest-push f xs v in omega (arith, rest)

-- the greatest among the points below n that pass
abbrev pub greatest_below : (ℕ → ℕ) → (ℕ → Bool) → ℕ → ℕ
greatest_below f t n = greatest (map f (filter t (range_with_len 0 n)))

pub below-more : (f : ℕ → ℕ) (t : ℕ → Bool) (n : ℕ)
    → greatest_below f t (n + 1) ≡ max (greatest_below f t n) (if t n then f n else 0)
below-more f t n = elim (cases_Bool (t n)) [
  | inl on ↦
      let here : (if t n then f n else 0) ≡ f n = rw on refl in
      let more = ap (λ xs. greatest (map f xs)) (filter-on t 0 n n (omega arith) on) in
      omega (arith, here, more, greatest-push f (filter t (range_with_len 0 n)) n)
  | inr off ↦
      let here : (if t n then f n else 0) ≡ 0 = rw off refl in
      let same = ap (λ xs. greatest (map f xs)) (filter-off t 0 n n (omega arith) off) in
      omega (arith, here, same)
]

pub below-none : (f : ℕ → ℕ) (t : ℕ → Bool) → greatest_below f t 0 ≡ 0
below-none f t = refl

pub below-all : (base : ℕ) (s : Shape) (p : Position) (side : Side) (n : ℕ)
    → n ≡ s.points
    → greatest_below (weight_in base s p side) (is_free p) n ≡ greatest_in base s p side
unfolding greatest_in free_points_in
below-all base s p side n is = ap (greatest_below (weight_in base s p side) (is_free p)) is

-- ---- the weight of a line, by its counts

module _ (s : Shape) (cells : List ℕ) (agree : Agree s cells) where
  pub weight-taken : (base : ℕ) (side : Side) (i : ℕ)
      → i < length s.lines
      → count_in s cells side i ≢ 0
      → line_weight base s.longest (points_of (position_of s cells) side) (position_of s cells)
      (line_in s i) ≡ 0
  weight-taken base side i low some =
      let by = weight-by s cells agree base side i low in
      let off : is_clear (count_in s cells) side i ≡ false = ne_eqb _ _ some in
      sym by
      ∙ ap (λ (b : Bool). if b then base ^ (s.longest - free_by s (count_in s cells) i) else 0) off

  pub weight-left : (base : ℕ) (side : Side) (i : ℕ)
      → i < length s.lines
      → count_in s cells side i ≡ 0
      → base ^ (s.longest - (length (line_in s i) - count_in s cells (other side) i)) ≡ line_weight
      base s.longest (points_of (position_of s cells) side) (position_of s cells) (line_in s i)
  weight-left base side i low none =
      let by = weight-by s cells agree base side i low in
      let on : is_clear (count_in s cells) side i ≡ true = eq-eqb _ _ none in
      let sum = sides-sum s (count_in s cells) side i in
      let same : length (line_in s i) - count_in s cells (other side) i
      ≡ free_by s (count_in s cells) i = omega (arith, sum, none) in
      ap (λ n. base ^ (s.longest - n)) same
      ∙ (sym
      (ap (λ (b : Bool). if b then base ^ (s.longest - free_by s (count_in s cells) i) else 0) on)
      ∙ by)

pub weight-bound : (base : ℕ) (s : Shape) (n : ℕ)
    → IsBase base s
    → n ≤ s.longest
    → base ^ n ≤ 2 ^ 100
weight-bound base s n ok few =
    let le = pow-le-pow_right {n = base} ok.some {i = n} {j = s.longest} few in
    omega (arith, le, ok.few)
