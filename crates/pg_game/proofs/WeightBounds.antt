-- Weights fit 128 bits.
use Rattle.std.proofs.Common.{◌≡◌, ◌≢◌, ℕ, ◌+◌, ◌^◌, ◌<◌, ◌≤◌, Bool, ◌==◌, if◌then◌else◌, List, []}
use Rattle.std.proofs.Common.{◌∷◌, length, refl, sym, subst, inl, inr, arith, eqb-true, All, get_or}
use Rattle.pg_game.proofs.Common.{cases_Bool, pow-le-pow_left, pow-le-pow_right, sum_by-le}
use Rattle.pg_game.proofs.Common.{All-weaker, Contains, FinSet, nat_cmp, Kind, MakerBreaker}
use Rattle.pg_game.proofs.Common.{MakerMaker, AvoiderEnforcer, Switching}
use Rattle.pg_game.specs.declared.game.Game.{Game}
use Rattle.pg_game.specs.declared.position.Position.{Position}
use Rattle.pg_game.specs.declared.field.Field.{Field}
use Rattle.pg_game.specs.declared.field.Field.TheVariants.{Lines, Graph as OnGraph}
use Rattle.pg_game.specs.Field.{field_points, field_lines}
use Rattle.pg_game.proofs.Outcomes.{switching-on_graph}
use Rattle.pg_game.specs.Fit.{IsLineOf, FieldFits, longest, greatest_bias}
use Rattle.pg_game.specs.Game.{lines_of, point_count, is_touched}
use Rattle.pg_game.specs.Potential.{greatest_length, line_weight, total_weight, full_weight}
use Rattle.pg_game.specs.Potential.{IsBaseOf}
use Rattle.pg_game.proofs.Limits.{lines-fit}
use Rattle.pg_game.proofs.Members.{Contains-head, Contains-tail}

greatest_length-le : (lines : List (List ℕ)) (m : ℕ)
    → ((line : List ℕ) → Contains lines line → length line ≤ m)
    → greatest_length lines ≤ m
greatest_length-le [] m each = omega arith
greatest_length-le (l ∷ ls) m each =
    let here = each l (Contains-head l ls) in
    let rest = greatest_length-le ls m (λ y c. each y (Contains-tail l y ls c)) in
    omega (arith, here, rest)

pub line-fit : (g : Game) (line : List ℕ)
    → Contains (lines_of g) line
    → IsLineOf (point_count g) g.bias line
line-fit g line c =
    subst (λ (l : List ℕ). IsLineOf (point_count g) g.bias l) c.2 (lines-fit g c.0 line c.1)

greatest_length-longest : (g : Game) → greatest_length (lines_of g) ≤ longest g.bias
greatest_length-longest g =
    greatest_length-le (lines_of g) (longest g.bias) (λ line c. (line-fit g line c).short)

greatest_bias-le : (kind : Kind) → greatest_bias kind ≤ 7
greatest_bias-le MakerBreaker = omega arith
greatest_bias-le AvoiderEnforcer = omega arith
greatest_bias-le MakerMaker = omega arith
greatest_bias-le Switching = omega arith

pub bias-le : (g : Game) → g.bias ≤ 7
bias-le g = omega (arith, g.fits.few_bias, greatest_bias-le g.kind)

-- no line has more than 100 points
pub greatest_length-few : (g : Game) → greatest_length (lines_of g) ≤ 100
greatest_length-few g = elim (cases_Bool (g.bias == 1)) [
  | inl one ↦ subst (λ (b : Bool). greatest_length (lines_of g) ≤ (if b then 100 else 33)) one
      (greatest_length-longest g)
  | inr more ↦
      let le : greatest_length (lines_of g) ≤ 33 =
      subst (λ (b : Bool). greatest_length (lines_of g) ≤ (if b then 100 else 33)) more
      (greatest_length-longest g) in
      omega (arith, le)
]

-- to base 2 a line weighs at most 2 to the power of 100
pub two-few : (g : Game) → full_weight 2 g ≤ 2 ^ 100
unfolding full_weight
two-few g = pow-le-pow_right {n = 2} (omega arith) (greatest_length-few g)

-- and as little to base 1 + q, as lines are shorter there
pub bias-few : (g : Game) → full_weight (1 + g.bias) g ≤ 2 ^ 100
unfolding full_weight
bias-few g = elim (cases_Bool (g.bias == 1)) [
  | inl one ↦ subst (λ (n : ℕ). (1 + n) ^ greatest_length (lines_of g) ≤ 2 ^ 100)
      (sym (eqb-true g.bias 1 one)) (two-few g)
  | inr more ↦
      let le : greatest_length (lines_of g) ≤ 33 =
      subst (λ (b : Bool). greatest_length (lines_of g) ≤ (if b then 100 else 33)) more
      (greatest_length-longest g) in
      let base : (1 + g.bias) ^ greatest_length (lines_of g) ≤ 8 ^ greatest_length (lines_of g) =
      pow-le-pow_left {n = 1 + g.bias} {m = 8} (omega (arith, bias-le g))
      (greatest_length (lines_of g)) in
      let high : 8 ^ greatest_length (lines_of g) ≤ 8 ^ 33 =
      pow-le-pow_right {n = 8} (omega arith) le in
      omega (arith, base, high)
]

-- ---- totals

few_lines-field : (kind : Kind) (field : Field) (bias : ℕ)
    → FieldFits kind field bias
    → length (field_lines field) ≤ 20000
few_lines-field kind (Lines f) bias fits = (fits.on_lines f refl).few_lines
few_lines-field kind (OnGraph h) bias fits = omega arith

pub few_lines : (g : Game) → length (lines_of g) ≤ 20000
few_lines g = few_lines-field g.kind g.field g.bias g.fits.within

small_points-field : (kind : Kind) (field : Field) (bias : ℕ)
    → FieldFits kind field bias
    → All (All (λ v. v < 256)) (field_lines field)
small_points-field kind (Lines f) bias fits =
    let is = fits.on_lines f refl in
    All-weaker (IsLineOf f.points bias) (All (λ v. v < 256))
    (λ line fit. All-weaker (λ v. v < f.points) (λ v. v < 256)
    (λ v h. omega (arith, h, is.few_points)) line fit.range) f.lines is.lines
small_points-field kind (OnGraph h) bias fits = λ k d h. absurd (omega arith)

-- the points of lines are below 256
pub small_points : (g : Game) → All (All (λ v. v < 256)) (lines_of g)
small_points g = small_points-field g.kind g.field g.bias g.fits.within

-- a line weighs at most as much as one without free points
pub line_weight-le : (base k : ℕ) (own : FinSet nat_cmp) (p : Position) (line : List ℕ)
    → 1 ≤ base
    → line_weight base k own p line ≤ base ^ k
unfolding line_weight
line_weight-le base k own p line some = elim (cases_Bool (is_touched own line)) [
  | inl touched ↦ rw touched (omega arith)
  | inr clear ↦ rw clear (pow-le-pow_right {n = base} some (omega arith))
]

pub total-few : (base : ℕ) (g : Game) (own : FinSet nat_cmp) (p : Position)
    → 1 ≤ base
    → full_weight base g ≤ 2 ^ 100
    → total_weight base g own p ≤ 2 ^ 115
unfolding total_weight full_weight
total-few base g own p some few =
    let k = greatest_length (lines_of g) in
    let each : All (λ line. line_weight base k own p line ≤ 2 ^ 100) (lines_of g) =
    (λ i d lt. let le = line_weight-le base k own p (get_or (lines_of g) i d) some in omega (
      arith,
      le,
      few,
    )) in
    omega (arith, sum_by-le (line_weight base k own p) (2 ^ 100) (lines_of g) each, few_lines g)

-- a game with lines has at most 256 points
pub few_points-lines : (g : Game) → g.kind ≢ Switching → point_count g ≤ 256
few_points-lines g on_lines = by g.field refl
  where
    by : (field : Field) → g.field ≡ field → point_count g ≤ 256
    by (Lines f) is = subst (λ (h : Field). field_points h ≤ 256) (sym is)
        (g.fits.within.on_lines f is).few_points
    by (OnGraph h) is = absurd (on_lines (switching-on_graph g h is))

pub IsBaseOf-bias : (g : Game) (n : ℕ) → n ≡ g.bias → IsBaseOf (1 + n) g
IsBaseOf-bias g n is = record {
  some = omega arith;
  few = subst (λ (m : ℕ). full_weight (1 + m) g ≤ 2 ^ 100) (sym is) (bias-few g);
}

pub IsBaseOf-two : (g : Game) → IsBaseOf 2 g
IsBaseOf-two g = record { some = omega arith; few = two-few g }
