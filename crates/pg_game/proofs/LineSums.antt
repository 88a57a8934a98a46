-- The weights of lines, and their sums with one line more.
use Rattle.std.proofs.Common.{◌≡◌, ℕ, zero, suc, ◌+◌, ◌-◌, ◌^◌, ◌<◌, ◌≤◌, true, false}
use Rattle.std.proofs.Common.{if◌then◌else◌, List, [], ◌∷◌, length, get_or, take, refl, ap, ◌∙◌}
use Rattle.std.proofs.Common.{inl, inr, arith, take_all}
use Rattle.pg_game.proofs.Common.{cases_Bool, sum_by-cons, sum_by_more_le, count_by, sum_by}
use Rattle.pg_game.proofs.Common.{Contains, FinSet, nat_cmp}
use Rattle.pg_game.specs.declared.game.Game.{Game}
use Rattle.pg_game.specs.declared.position.Position.{Position}
use Rattle.pg_game.specs.Position.{is_free}
use Rattle.pg_game.specs.Game.{is_touched, lines_of}
use Rattle.pg_game.specs.Potential.{greatest_length, is_on, line_weight, total_weight, point_weight}
use Rattle.pg_game.specs.Potential.{full_weight, IsBaseOf}
use Rattle.pg_game.proofs.Members.{Contains-head, Contains-tail}
use Rattle.pg_game.proofs.WeightBounds.{total-few}

-- ---- the weight of a line

pub line_weight-touched : (base k : ℕ) (own : FinSet nat_cmp) (p : Position) (line : List ℕ)
    → is_touched own line ≡ true
    → line_weight base k own p line ≡ 0
unfolding line_weight
line_weight-touched base k own p line touched = rw touched refl

pub line_weight-clear : (base k : ℕ) (own : FinSet nat_cmp) (p : Position) (line : List ℕ)
    → is_touched own line ≡ false
    → line_weight base k own p line ≡ base ^ (k - count_by (is_free p) line)
unfolding line_weight
line_weight-clear base k own p line clear = rw clear refl

pub length-le-greatest : (lines : List (List ℕ)) (line : List ℕ)
    → Contains lines line
    → length line ≤ greatest_length lines
length-le-greatest [] line c = absurd (omega (arith, c.1))
length-le-greatest (l ∷ ls) line (zero, lt, is) =
    let same : length l ≡ length line = ap length is in
    omega arith
length-le-greatest (l ∷ ls) line (suc k, lt, is) =
    let rest = length-le-greatest ls line (k, omega arith, is) in
    omega arith

pub full_weight-is : (base : ℕ) (g : Game) (k : ℕ)
    → k ≡ greatest_length (lines_of g)
    → base ^ k ≡ full_weight base g
unfolding full_weight
full_weight-is base g k is = ap (λ n. base ^ n) is

-- ---- all lines

pub sum-le : {X : Type 0} (f h : X → ℕ) (xs : List X)
    → ((x : X) → Contains xs x → f x ≤ h x)
    → sum_by f xs ≤ sum_by h xs
sum-le f h [] each = omega arith
sum-le f h (x ∷ xs) each =
    let here = each x (Contains-head x xs) in
    let rest = sum-le f h xs (λ y c. each y (Contains-tail x y xs c)) in
    omega (arith, here, rest, sum_by-cons f x xs, sum_by-cons h x xs)

-- the sum so far with one line more
pub total-fits : (base : ℕ) (g : Game) (own : FinSet nat_cmp) (p : Position) (lines : List (List ℕ))
    (k i : ℕ) (line : List ℕ)
    → IsBaseOf base g
    → lines ≡ lines_of g
    → k ≡ greatest_length (lines_of g)
    → i < length lines
    → line ≡ get_or lines i line
    → sum_by (line_weight base k own p) (take i lines) + line_weight base k own p line ≤ 2 ^ 115
unfolding total_weight
total-fits base g own p lines k i line ok same longest lt is =
    let more = sum_by_more_le (line_weight base k own p) lines i line lt in
    let here : line_weight base k own p line ≡ line_weight base k own p (get_or lines i line) =
    ap (line_weight base k own p) is in
    let all : sum_by (line_weight base k own p) lines ≡ total_weight base g own p =
    ap (sum_by (line_weight base k own p)) same
    ∙ ap (λ n. sum_by (line_weight base n own p) (lines_of g)) longest in
    omega (arith, more, here, all, total-few base g own p ok.some ok.few)

pub total-all : (base : ℕ) (g : Game) (own : FinSet nat_cmp) (p : Position) (lines : List (List ℕ))
    (k i total : ℕ)
    → lines ≡ lines_of g
    → k ≡ greatest_length (lines_of g)
    → length lines ≤ i
    → total ≡ sum_by (line_weight base k own p) (take i lines)
    → total ≡ total_weight base g own p
unfolding total_weight
total-all base g own p lines k i total same longest end is =
    let whole : take i lines ≡ lines_of g = take_all i lines end ∙ same in
    is
    ∙ ap (sum_by (line_weight base k own p)) whole
    ∙ ap (λ n. sum_by (line_weight base n own p) (lines_of g)) longest

-- ---- the lines through a point

-- the weight of a line through the point, else 0
abbrev pub weight_on : ℕ → ℕ → FinSet nat_cmp → Position → ℕ → List ℕ → ℕ
weight_on base k own p v line = if is_on v line then line_weight base k own p line else 0

-- some lines through a point weigh no more than those lines and the others
pub points-le : (base k : ℕ) (own : FinSet nat_cmp) (p : Position) (v : ℕ) (lines : List (List ℕ))
    → sum_by (weight_on base k own p v) lines ≤ sum_by (line_weight base k own p) lines
points-le base k own p v lines = sum-le _ _ lines (λ line c. elim (cases_Bool (is_on v line)) [
  | inl on ↦ rw on (omega arith)
  | inr off ↦ rw off (omega arith)
])

pub point-all : (base : ℕ) (g : Game) (own : FinSet nat_cmp) (p : Position) (v : ℕ)
    (lines : List (List ℕ)) (k i sum : ℕ)
    → lines ≡ lines_of g
    → k ≡ greatest_length (lines_of g)
    → length lines ≤ i
    → sum ≡ sum_by (weight_on base k own p v) (take i lines)
    → sum ≡ point_weight base g own p v
unfolding point_weight
point-all base g own p v lines k i sum same longest end is =
    let whole : take i lines ≡ lines_of g = take_all i lines end ∙ same in
    is
    ∙ ap (sum_by (weight_on base k own p v)) whole
    ∙ ap (λ n. sum_by (weight_on base n own p v) (lines_of g)) longest

-- a point weighs no more than all lines
pub weight-le-total : (base : ℕ) (g : Game) (own : FinSet nat_cmp) (p : Position) (v : ℕ)
    → point_weight base g own p v ≤ total_weight base g own p
unfolding total_weight point_weight
weight-le-total base g own p v = points-le base (greatest_length (lines_of g)) own p v (lines_of g)
