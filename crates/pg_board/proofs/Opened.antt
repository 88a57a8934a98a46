-- The board that was opened.
use Rattle.std.proofs.Common.{◌≡◌, ℕ, zero, suc, ◌<◌, ◌≤◌, Bool, true, false, ◌&&◌, List, length}
use Rattle.std.proofs.Common.{get_or, set, ltb, refl, ap, ◌∙◌, arith}
use Rattle.std.proofs.Common.{[]}
use Rattle.pg_board.proofs.Common.{length-filter, range_with_len, is_free, present, lt-ltb}
use Rattle.pg_board.proofs.Common.{get_or-set_same, contains, same_points, Side, X, Y, Position}
use Rattle.pg_board.proofs.Common.{claims_in_turn, Cells, with_set, settled}
use Rattle.pg_board.specs.declared.plays.Played.{Played}
use Rattle.pg_board.specs.Fits.{AreFit, earlier_of, free_points_in}
use Rattle.pg_board.proofs.Ranges.{count-few}
use Rattle.pg_board.specs.Shape.{Shape, turn_cell}
use Rattle.pg_board.specs.Fits.{Rules, Fits, position_of, turn_of, left_of}
use Rattle.pg_board.specs.Opening.{Opens, turn_code}
use Rattle.pg_board.specs.declared.rings.Rings.{Rings}
use Rattle.pg_board.proofs.Fitting.{some-cells}
use Rattle.pg_board.proofs.OpeningSteps.{turned-x, turned-y}

code-turns : (turn : Side) (left : ℕ) → 1 ≤ left → turn_of (turn_code turn left) ≡ turn
unfolding turn_of
code-turns X left some = refl
code-turns Y zero some = absurd (omega arith)
code-turns Y (suc k) some = refl

code-left : (turn : Side) (bias left : ℕ)
    → 1 ≤ left
    → left ≤ claims_in_turn bias turn
    → left_of (turn_code turn left) ≡ left
unfolding left_of
code-left X bias left some few = omega arith
code-left Y bias zero some few = absurd (omega arith)
code-left Y bias (suc k) some few = refl

pub code-low : (turn : Side) (bias left : ℕ)
    → left ≤ claims_in_turn bias turn
    → turn_code turn left ≤ bias
code-low X bias left few = omega arith
code-low Y bias left few = few

turn-now : (s : Shape) (cells : List ℕ) → (position_of s cells).turn ≡ turn_of (get_or cells 0 0)
unfolding position_of
turn-now s cells = refl

left-now : (s : Shape) (cells : List ℕ) → (position_of s cells).left ≡ left_of (get_or cells 0 0)
unfolding position_of
left-now s cells = refl

-- the position is the one at which the board was to be opened
pub opened-position : (r : Rules) (p : Position) (t : Cells) (rings : Rings)
    → Opens r p r.shape.points t rings
    → ((v : ℕ) → contains p.x v ≡ true → v < r.shape.points)
    → ((v : ℕ) → contains p.y v ≡ true → v < r.shape.points)
    → 1 ≤ p.left
    → p.left ≤ claims_in_turn r.bias p.turn
    → position_of r.shape (with_set t turn_cell (turn_code p.turn p.left)).cells ≡ p
unfolding with_set
opened-position r p t rings opens x_low y_low some few =
    let n = turn_code p.turn p.left in
    let cells = set t.cells turn_cell n in
    let at : get_or cells 0 0 ≡ n = get_or-set_same t.cells turn_cell n 0
    (some-cells r t rings.live_x rings.live_y rings.free opens.fits) in
    let x_is : (position_of r.shape cells).x ≡ p.x = turned-x r.shape t.cells n
    ∙ same_points _ _ (λ q. opens.marks X q ∙ below (contains p.x q) q (x_low q)) in
    let y_is : (position_of r.shape cells).y ≡ p.y = turned-y r.shape t.cells n
    ∙ same_points _ _ (λ q. opens.marks Y q ∙ below (contains p.y q) q (y_low q)) in
    let turn_is = turn-now r.shape cells ∙ (ap turn_of at ∙ code-turns p.turn p.left some) in
    let left_is =
    left-now r.shape cells ∙ (ap left_of at ∙ code-left p.turn r.bias p.left some few) in
    λ i. record { x = x_is i; y = y_is i; turn = turn_is i; left = left_is i }
  where
    below : (b : Bool) (q : ℕ) → (b ≡ true → q < r.shape.points) → (b && ltb q r.shape.points) ≡ b
    below true q low = lt-ltb q r.shape.points (low refl)
    below false q low = refl

pub fit-none : (r : Rules) (t : Cells) (x y free : List (List ℕ)) (plays : List Played)
    → plays ≡ []
    → Fits r t x y free
    → AreFit r t x y free plays
unfolding AreFit
fit-none r t x y free plays none fits = rw none fits

pub earlier-none : (s : Shape) (t : Cells) (plays : List Played)
    → plays ≡ []
    → earlier_of s t plays ≡ []
unfolding earlier_of
earlier-none s t plays none = rw none refl

pub free-few : (r : Rules) (t : Cells) (x y free : List (List ℕ))
    → Fits r t x y free
    → length (present free) ≤ r.shape.points
unfolding free_points_in
free-few r t x y free fits =
    let all =
    length-filter (is_free (position_of r.shape t.cells)) (range_with_len 0 r.shape.points) in
    let few = count-few (is_free (position_of r.shape t.cells)) 0 r.shape.points in
    let same = ap length fits.free_is in
    omega arith

-- ---- the trail without entries

pub settled-none : (now t : Cells) → now ≡ settled t → now.entries ≡ []
unfolding settled
settled-none now t is = ap (λ (k : Cells). k.entries) is

pub settled-position : (s : Shape) (now t : Cells)
    → now ≡ settled t
    → position_of s now.cells ≡ position_of s t.cells
unfolding settled
settled-position s now t is = ap (λ (k : Cells). position_of s k.cells) is

pub settled-fits : (r : Rules) (t : Cells) (x y free : List (List ℕ))
    → Fits r t x y free
    → Fits r (settled t) x y free
unfolding settled
settled-fits r t x y free fits = record {
  shape = fits.shape;
  some_bias = fits.some_bias;
  few_bias = fits.few_bias;
  few_weights = fits.few_weights;
  turn = fits.turn;
  counted = fits.counted;
  counts = fits.counts;
  live = fits.live;
  free_is = fits.free_is;
  some_live = fits.some_live;
  some_free = fits.some_free;
  room = omega (arith, fits.room);
}
