-- A board's answers in the words of its game.
use Rattle.std.proofs.Common.{◌≡◌, ◌≢◌, ℕ, zero, suc, ◌+◌, ◌^◌, ◌<◌, ◌≤◌, Bool, true, false, ltb}
use Rattle.std.proofs.Common.{List, [], ◌∷◌, length, get_or, refl, sym, ap, ◌∙◌, arith, subst}
use Rattle.pg_board.proofs.Common.{ne_eqb, and_parts, and_right, ltb-true, count_by-le-length}
use Rattle.pg_board.proofs.Common.{length-filter, pow-le-pow_left, All, count_by, range_with_len}
use Rattle.pg_board.proofs.Common.{contains, one_if, Side, X, Y, Game, Position, is_free, points_of}
use Rattle.pg_board.proofs.Common.{claims_in_turn, point_count, lines_of, IsPosition, is_empty}
use Rattle.pg_board.proofs.Common.{is_full, all_touched, has_filled, short_joins, can_join}
use Rattle.pg_board.proofs.Common.{is_over_by, is_over, outcome_by, outcome, Switching, is_on}
use Rattle.pg_board.proofs.Common.{total, weight, greatest_weight, potential_holds, total_weight}
use Rattle.pg_board.proofs.Common.{point_weight, full_weight, avoider_total, avoider_weight}
use Rattle.pg_board.proofs.Common.{avoider_holds, free_points, Cells}
use Rattle.pg_base.specs.declared.kind.Kind.{Kind}
use Rattle.pg_base.specs.declared.score.Score.{Score}
use Rattle.pg_board.specs.Shape.{Shape, IsShape, shape_of, lines_holding, lines_through, degree_in}
use Rattle.pg_board.specs.Shape.{turn_cell}
use Rattle.pg_board.specs.Fits.{Rules, Fits, rules_of, position_of, turn_of, left_of, live_lines_in}
use Rattle.pg_board.specs.Fits.{free_points_in}
use Rattle.pg_board.specs.Board.{line_at, degree, live_lines, is_live_with, live_with}
use Rattle.pg_board.specs.Totals.{live_with_in, total_in, weight_in, greatest_in, potential_in}
use Rattle.pg_board.specs.Totals.{avoider_in, Agree, IsBase}
use Rattle.pg_board.proofs.Decoding.{has-points}
use Rattle.pg_board.proofs.Walks.{disjoint-is}
use Rattle.pg_board.proofs.Deciding.{turn-is, left-is, touched-is}
use Rattle.pg_board.proofs.Digits.{count-first, count-all}

-- the lines through a point are those of its game
pub through-of : (g : Game) (v : ℕ) → lines_through (shape_of g) v ≡ lines_holding (lines_of g) v
unfolding lines_through
through-of g v = refl

-- ---- what the weighing requires

pub agree-is : (r : Rules) (t : Cells) (x y free : List (List ℕ))
    → Fits r t x y free
    → Agree r.shape t.cells
agree-is r t x y free fits = record {
  shape = fits.shape;
  counted = fits.counted;
  counts = fits.counts;
}

pub base-is : (r : Rules) (t : Cells) (x y free : List (List ℕ)) (n : ℕ)
    → Fits r t x y free
    → n ≡ r.bias
    → IsBase (1 + n) r.shape
base-is r t x y free n fits is = record {
  some = omega arith;
  few = subst (λ (k : ℕ). (1 + k) ^ r.shape.longest ≤ 2 ^ 100) (sym is) fits.few_weights;
}

pub base-two : (r : Rules) (t : Cells) (x y free : List (List ℕ))
    → Fits r t x y free
    → IsBase 2 r.shape
base-two r t x y free fits =
    let le =
    pow-le-pow_left {n = 2} {m = 1 + r.bias} (omega (arith, fits.some_bias)) r.shape.longest in
    record { some = omega arith; few = omega (arith, le, fits.few_weights) }

-- ---- live lines

none-pass : (t : List ℕ → Bool) (lines : List (List ℕ))
    → All (λ line. t line ≡ false) lines
    → count_by t lines ≡ 0
none-pass t [] all = refl
none-pass t (line ∷ lines) all =
    let here = ap one_if (all 0 [] (omega arith)) in
    let rest = none-pass t lines (λ k d low. all (suc k) d (omega arith)) in
    omega (arith, here, rest, count-first t line lines)

-- no line has more free points than the longest line has points
pub too-free : (s : Shape) (p : Position) (side : Side) (free : ℕ)
    → IsShape s
    → s.longest < free
    → 0 ≡ live_with_in s p side free
unfolding live_with_in
too-free s p side free shape more = sym (none-pass (is_live_with p side free) s.lines (λ k d low.
    let line = get_or s.lines k d in
    let few = count_by-le-length (is_free p) line in
    let short = shape.lines k d low in
    and_right _ _
    (ne_eqb (count_by (is_free p) line) free (λ e. omega (arith, few, short.short, more, e)))))

-- ---- the same of a game

pub total-of : (g : Game) (p : Position) (side : Side)
    → total_in (1 + g.bias) (shape_of g) p side ≡ total g p side
unfolding total_in total_weight
total-of g p side = refl

pub weight-of : (g : Game) (p : Position) (side : Side) (v : ℕ)
    → weight_in (1 + g.bias) (shape_of g) p side v ≡ weight g p side v
unfolding weight_in point_weight
weight-of g p side v = refl

pub greatest-of : (g : Game) (p : Position) (side : Side)
    → greatest_in (1 + g.bias) (shape_of g) p side ≡ greatest_weight g p side
unfolding greatest_in weight_in point_weight free_points_in free_points
greatest-of g p side = refl

pub avoider-total-of : (g : Game) (p : Position) → total_in 2 (shape_of g) p Y ≡ avoider_total g p
unfolding total_in total_weight
avoider-total-of g p = refl

pub avoider-weight-of : (g : Game) (p : Position) (v : ℕ)
    → weight_in 2 (shape_of g) p Y v ≡ avoider_weight g p v
unfolding weight_in point_weight
avoider-weight-of g p v = refl

pub potential-of : (g : Game) (p : Position) (side : Side)
    → potential_in (rules_of g) p side ≡ potential_holds g p side
unfolding potential_in potential_holds total_in total_weight greatest_in weight_in point_weight
    free_points_in free_points full_weight
potential-of g p side = refl

pub avoider-of : (g : Game) (p : Position) → avoider_in (rules_of g) p ≡ avoider_holds g p
unfolding avoider_in avoider_holds total_in total_weight free_points_in free_points full_weight
avoider-of g p = refl

pub live-lines-of : (g : Game) (p : Position) (side : Side)
    → live_lines_in (shape_of g) p side ≡ live_lines g p side
unfolding live_lines_in live_lines
live-lines-of g p side = refl

pub free-points-of : (g : Game) (p : Position) → free_points_in (shape_of g) p ≡ free_points g p
unfolding free_points_in free_points
free-points-of g p = refl

pub live-with-of : (g : Game) (p : Position) (side : Side) (free : ℕ)
    → live_with_in (shape_of g) p side free ≡ live_with g p side free
unfolding live_with_in live_with
live-with-of g p side free = refl

pub degree-of : (g : Game) (v : ℕ) → degree_in (shape_of g) v ≡ degree g v
unfolding lines_through lines_holding
degree-of g v = length-filter (λ i. is_on v (line_at g i)) (range_with_len 0 (length (lines_of g)))
    ∙ count-all (λ i. is_on v (line_at g i)) (is_on v) (lines_of g) (λ i low. refl)

-- ---- the position

some-left : (cell : ℕ) → 1 ≤ left_of cell
unfolding left_of
some-left zero = omega arith
some-left (suc k) = omega arith

few-left : (cell bias : ℕ) → cell ≤ bias → left_of cell ≤ claims_in_turn bias (turn_of cell)
unfolding left_of turn_of
few-left zero bias few = omega arith
few-left (suc k) bias few = few

below : (s : Shape) (cells : List ℕ) (side : Side) (v : ℕ)
    → contains (points_of (position_of s cells) side) v ≡ true
    → v < s.points
below s cells side v on =
    ltb-true v s.points (and_parts (ltb v s.points) _ (sym (has-points s cells side v) ∙ on)).0

pub position-fits : (g : Game) (s : Shape) (t : Cells) (x y free : List (List ℕ))
    → s ≡ shape_of g
    → Fits (record { bias = g.bias; shape = s }) t x y free
    → IsPosition g (position_of s t.cells)
position-fits g s t x y free same fits =
    let points : s.points ≡ point_count g = ap (λ (k : Shape). k.points) same in
    let cell = get_or t.cells turn_cell 0 in
    let turn = turn-is s t.cells in
    let left = left-is s t.cells in
    record {
      x_range = λ v on. (let low = below s t.cells X v on in omega arith);
      y_range = λ v on. (let low = below s t.cells Y v on in omega arith);
      disjoint = disjoint-is s t.cells;
      some_left = subst (λ k. 1 ≤ k) left (some-left cell);
      few_left = subst (λ k. k ≤ claims_in_turn g.bias (position_of s t.cells).turn) left
          (subst (λ side. left_of cell ≤ claims_in_turn g.bias side) turn
          (few-left cell g.bias fits.turn));
    }

-- ---- the end

pub touched-of : (g : Game) (p : Position) → is_empty (live_lines g p Y) ≡ all_touched g p
touched-of g p = ap is_empty (sym (live-lines-of g p Y)) ∙ touched-is (shape_of g) p

pub over-is : (g : Game) (p : Position) (kind : Kind) (x y touched full over : Bool)
    → kind ≡ g.kind
    → x ≡ has_filled g p X
    → y ≡ has_filled g p Y
    → touched ≡ all_touched g p
    → full ≡ is_full g p
    → ((joined joinable : Bool) → kind ≢ Switching
    → over ≡ is_over_by kind x y touched full joined joinable)
    → g.kind ≢ Switching
    → over ≡ is_over g p
unfolding is_over
over-is g p kind x y touched full over kind_is x_is y_is touched_is full_is by lines =
    by (short_joins g p) (can_join g p) (λ e. lines (sym kind_is ∙ e))
    ∙ (λ i. is_over_by (kind_is i) (x_is i) (y_is i) (touched_is i) (full_is i) (short_joins g p)
    (can_join g p))

pub outcome-is : (g : Game) (p : Position) (kind : Kind) (x y : Bool) (score : Score)
    → kind ≡ g.kind
    → x ≡ has_filled g p X
    → y ≡ has_filled g p Y
    → ((joined : Bool) → kind ≢ Switching → score ≡ outcome_by kind x y joined)
    → g.kind ≢ Switching
    → score ≡ outcome g p
unfolding outcome
outcome-is g p kind x y score kind_is x_is y_is by lines =
    by (short_joins g p) (λ e. lines (sym kind_is ∙ e))
    ∙ (λ i. outcome_by (kind_is i) (x_is i) (y_is i) (short_joins g p))
