-- Weights in units.
use Rattle.std.proofs.Common.{◌≡◌, ℕ, zero, suc, ◌+◌, ◌-◌, ◌*◌, ◌/◌, ◌^◌, ◌<◌, ◌≤◌, Bool, true}
use Rattle.std.proofs.Common.{false, if◌then◌else◌, List, [], ◌∷◌, length, get_or, sym, ap, ap₂}
use Rattle.std.proofs.Common.{◌∙◌, inl, inr, arith}
use Rattle.pg_scene.proofs.Common.{mul-div_cancel_left, one-le-pow, cases_Bool, FinSet, count_by}
use Rattle.pg_scene.proofs.Common.{sum_by, nat_cmp, is_touched, lines_of, is_free, greatest_length}
use Rattle.pg_scene.proofs.Common.{is_on, line_weight, point_weight, Game, Position}
use Rattle.pg_scene.proofs.Common.{line_weight-clear, line_weight-touched}
use Rattle.std.proofs.lemmas.List.Sums.{count_by-le-length, sum_by-cons}
use Rattle.std.proofs.lemmas.Nat.{pow-add}
use Rattle.pg_captions.proofs.Lightest.{free_on-clear, free_on-touched}
use Rattle.pg_captions.specs.Lightest.{free_on, most_free}
use Rattle.pg_scene.specs.Items.{unit_weight, units_by}

-- ---- how many free points there are

free_on-le : (own : FinSet nat_cmp) (p : Position) (line : List ℕ)
    → free_on own p line ≤ length line
free_on-le own p line = elim (cases_Bool (is_touched own line)) [
  | inl touched ↦ let none = free_on-touched own p line touched in omega (arith, none)
  | inr clear ↦
      let some = free_on-clear own p line clear in
      omega (arith, some, count_by-le-length (is_free p) line)
]

most_free-le : (own : FinSet nat_cmp) (p : Position) (lines : List (List ℕ))
    → most_free own p lines ≤ greatest_length lines
most_free-le own p [] = omega arith
most_free-le own p (line ∷ lines) = omega (arith, free_on-le own p line, most_free-le own p lines)

free_on-most : (own : FinSet nat_cmp) (p : Position) (lines : List (List ℕ)) (k : ℕ) (d : List ℕ)
    → k < length lines
    → free_on own p (get_or lines k d) ≤ most_free own p lines
free_on-most own p [] k d lt = absurd (omega arith)
free_on-most own p (line ∷ lines) zero d lt = omega arith
free_on-most own p (line ∷ lines) (suc k) d lt =
    let others = free_on-most own p lines k d (omega arith) in
    omega (arith, others)

-- ---- a line

scaled_line : (base K m : ℕ) (own : FinSet nat_cmp) (p : Position) (line : List ℕ)
    → free_on own p line ≤ m
    → m ≤ K
    → line_weight base K own p line ≡ base ^ (K - m) * line_weight base m own p line
scaled_line base K m own p line few le = elim (cases_Bool (is_touched own line)) [
  | inl touched ↦
      let all = line_weight-touched base K own p line touched in
      let one = ap (λ w. base ^ (K - m) * w) (line_weight-touched base m own p line touched) in
      let none : base ^ (K - m) * 0 ≡ 0 = omega arith in
      all ∙ sym (one ∙ none)
  | inr clear ↦
      let free = free_on-clear own p line clear in
      let split : K - count_by (is_free p) line ≡ (K - m) + (m - count_by (is_free p) line) =
      omega (arith, free, few, le) in
      line_weight-clear base K own p line clear
      ∙ ap (λ n. base ^ n) split
      ∙ pow-add base (K - m) (m - count_by (is_free p) line)
      ∙ ap (λ w. base ^ (K - m) * w) (sym (line_weight-clear base m own p line clear))
]

-- ---- all lines

scaled_through : (u : ℕ) (b : Bool) (x y : ℕ)
    → x ≡ u * y
    → ◌≡◌ {A = ℕ} (if b then x else 0) (u * (if b then y else 0))
scaled_through u true x y h = h
scaled_through u false x y h = let none : 0 ≡ u * 0 = omega arith in none

scaled_sum : (u v : ℕ) (f h : List ℕ → ℕ) (lines : List (List ℕ))
    → ((k : ℕ) (d : List ℕ) → k < length lines → f (get_or lines k d) ≡ u * h (get_or lines k d))
    → sum_by (λ line. if is_on v line then f line else 0) lines
    ≡ u * sum_by (λ line. if is_on v line then h line else 0) lines
scaled_sum u v f h [] each = let none : 0 ≡ u * 0 = omega arith in none
scaled_sum u v f h (line ∷ lines) each =
    let here = scaled_through u (is_on v line) (f line) (h line) (each 0 line (omega arith)) in
    let rest = scaled_sum u v f h lines (λ k d lt. each (suc k) d (omega arith)) in
    let one = sum_by-cons (λ line. if is_on v line then f line else 0) line lines in
    let other = sum_by-cons (λ line. if is_on v line then h line else 0) line lines in
    let apart : (a b : ℕ) → u * a + u * b ≡ u * (a + b) = λ a b. omega arith in
    one
    ∙ ap₂ (λ a b. a + b) here rest
    ∙ apart (if is_on v line then h line else 0)
    (sum_by (λ line. if is_on v line then h line else 0) lines)
    ∙ ap (λ n. u * n) (sym other)

-- a point's weight is so many times that of the lightest line
pub units_by-weight : (base : ℕ) (g : Game) (own : FinSet nat_cmp) (p : Position) (v : ℕ)
    → 1 ≤ base
    → point_weight base g own p v / unit_weight base g own p ≡ units_by base g own p v
unfolding point_weight unit_weight units_by
units_by-weight base g own p v some =
    let lines = lines_of g in
    let K = greatest_length lines in
    let m = most_free own p lines in
    let whole = scaled_sum (base ^ (K - m)) v (line_weight base K own p)
    (line_weight base m own p) lines (λ k d lt. scaled_line base K m own p (get_or lines k d)
    (free_on-most own p lines k d lt) (most_free-le own p lines)) in
    ap (λ n. n / base ^ (K - m)) whole
    ∙ mul-div_cancel_left
    (sum_by (λ line. if is_on v line then line_weight base m own p line else 0) lines)
    {n = base ^ (K - m)} (one-le-pow (K - m) base (omega (arith, some)))
