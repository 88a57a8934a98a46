-- A board whose turn passes.
use Rattle.std.proofs.Common.{◌≡◌, ◌≢◌, ℕ, zero, suc, ◌<◌, ◌≤◌, List, [], ◌∷◌, ◌++◌, length}
use Rattle.std.proofs.Common.{get_or, set, refl, sym, ap, ◌∙◌, arith, subst, ◌==◌}
use Rattle.pg_board.proofs.Common.{get_or-set_same, get_or-set_other, length-set, Cells}
use Rattle.pg_board.proofs.Common.{back_to, with_cell, with_cell-twice, Side, X, Y, other}
use Rattle.pg_board.proofs.Common.{points_of, is_free, Position, FinSet, contains, nat_cmp}
use Rattle.pg_board.proofs.Common.{count_by, ne_eqb}
use Rattle.pg_board.specs.Shape.{turn_cell, mark_cell, line_in}
use Rattle.pg_board.specs.Board.{View}
use Rattle.pg_board.specs.Counts.{count_in, clear_lines}
use Rattle.pg_board.specs.Fits.{Rules, Fits, AreFit, IsPlayed, position_of, has_mark, set_below}
use Rattle.pg_board.specs.Fits.{turn_of, left_of, held_in, free_points_in, summed, entries_of}
use Rattle.pg_board.specs.Fits.{earlier_of, fewer, left_by, mark_of, stand_of, pick}
use Rattle.pg_board.specs.declared.plays.Played.{Played}
use Rattle.pg_board.specs.Passing.{IsPassed, other_turn, passed}
use Rattle.pg_board.proofs.CellPlaces.{mark_cell-is}
use Rattle.pg_board.proofs.Claiming.{other_other}
use Rattle.pg_board.proofs.Decoding.{set_below-same}
use Rattle.pg_board.proofs.Fitting.{same-counted, same-counts, some-cells}

-- the points of a side don't depend on the turn
same-points : (p : Position) (turn : Side) (left : ℕ) (k : Side)
    → points_of (record { x = p.x; y = p.y; turn = turn; left = left }) k ≡ points_of p k
same-points p turn left X = refl
same-points p turn left Y = refl

module _ (r : Rules) (t : Cells) (x y free : List (List ℕ)) (n : ℕ) (fits : Fits r t x y free)
    (low : n ≤ r.bias) where
  left-as : (k : ℕ) → k ≢ 0 → get_or (set t.cells turn_cell n) k 0 ≡ get_or t.cells k 0
  left-as k apart = get_or-set_other t.cells turn_cell k n 0 apart

  turn-is : get_or (set t.cells turn_cell n) turn_cell 0 ≡ n
  turn-is =
      let some = some-cells r t x y free fits in
      get_or-set_same t.cells turn_cell n 0 (omega (arith, some))

  marks : (k : Side)
      → set_below (has_mark (set t.cells turn_cell n) k) r.shape.points
      ≡ set_below (has_mark t.cells k) r.shape.points
  unfolding has_mark
  marks k = set_below-same (has_mark (set t.cells turn_cell n) k) (has_mark t.cells k)
      r.shape.points (λ q lt.
      let at = mark_cell-is q in
      ap (λ m. m == mark_of k) (left-as (mark_cell q) (λ e. omega arith)))

  pub position-passed : position_of r.shape (set t.cells turn_cell n) ≡ record {
    x = (position_of r.shape t.cells).x;
    y = (position_of r.shape t.cells).y;
    turn = turn_of n;
    left = left_of n;
  }
  unfolding position_of
  position-passed = λ i. record {
    x = marks X i;
    y = marks Y i;
    turn = turn_of (turn-is i);
    left = left_of (turn-is i);
  }

  beyond : (k : ℕ)
      → r.shape.points < k
      → get_or (set t.cells turn_cell n) k 0 ≡ get_or t.cells k 0
  beyond k high = left-as k (λ e. omega arith)

  counts-now : count_in r.shape (set t.cells turn_cell n) ≡ count_in r.shape t.cells
  counts-now = same-counts r.shape t.cells (set t.cells turn_cell n) beyond

  held-now : (k : Side) (i : ℕ)
      → held_in r.shape (position_of r.shape (set t.cells turn_cell n)) k i
      ≡ held_in r.shape (position_of r.shape t.cells) k i
  held-now k i = ap (λ (q : Position). held_in r.shape q k i) position-passed
      ∙ ap (λ (s : FinSet nat_cmp). count_by (contains s) (line_in r.shape i))
      (same-points (position_of r.shape t.cells) (turn_of n) (left_of n) k)

  pub fits-passed : Fits r (with_cell t turn_cell n) x y free
  unfolding with_cell free_points_in
  fits-passed = record {
    shape = fits.shape;
    some_bias = fits.some_bias;
    few_bias = fits.few_bias;
    few_weights = fits.few_weights;
    turn = subst (λ (m : ℕ). m ≤ r.bias) (sym turn-is) low;
    counted = same-counted r.shape t.cells (set t.cells turn_cell n) fits.counted
        (length-set t.cells turn_cell n) beyond;
    counts = λ k i i_low. ap (λ (c : Side → ℕ → ℕ). c k i) counts-now
        ∙ fits.counts k i i_low
        ∙ sym (held-now k i);
    live = λ k. fits.live k
        ∙ ap (λ (c : Side → ℕ → ℕ). clear_lines r.shape c k) (sym counts-now);
    free_is = fits.free_is ∙ sym (ap (free_points_in r.shape) position-passed);
    some_live = fits.some_live;
    some_free = fits.some_free;
    room = subst
        (λ (q : Position). summed (entries_of r.shape) (is_free q) r.shape.points ≤ t.spare)
        (sym position-passed) fits.room;
  }

-- what the plays that stand were is as before
module _ (r : Rules) (n : ℕ) where
  played-passed : (t : Cells) (x y free : List (List ℕ)) (play : Played)
      → IsPlayed r t x y free play
      → IsPlayed r (with_cell t turn_cell n) x y free play
  unfolding with_cell
  played-passed t x y free play h = record {
    level = h.level;
    range = h.range;
    lists = λ k. subst
        (λ (b : Cells). left_by r.shape b.cells k play.point < length (pick k x y))
        (sym (h.turn n)) (h.lists k);
    free_lists = h.free_lists;
    one_more = h.one_more;
    turn = λ m. ap (back_to play.level) (with_cell-twice t turn_cell n m)
        ∙ h.turn m
        ∙ sym (h.turn n);
  }

  pub fit-passed : (t : Cells) (x y free : List (List ℕ)) (plays : List Played)
      → n ≤ r.bias
      → AreFit r t x y free plays
      → AreFit r (with_cell t turn_cell n) x y free plays
  unfolding AreFit
  fit-passed t x y free [] low h = fits-passed r t x y free n h low
  fit-passed t x y free (play ∷ plays) low h = (
    fits-passed r t x y free n h.0 low,
    played-passed t x y free play h.1,
    subst (λ (b : Cells). AreFit r b (fewer (left_by r.shape b.cells X play.point) x)
        (fewer (left_by r.shape b.cells Y play.point) y) (fewer 1 free) plays)
        (sym (h.1.turn n)) h.2,
  )

  pub earlier-passed : (t : Cells) (x y free : List (List ℕ)) (plays : List Played)
      → AreFit r t x y free plays
      → earlier_of r.shape (with_cell t turn_cell n) plays ≡ earlier_of r.shape t plays
  unfolding AreFit earlier_of
  earlier-passed t x y free [] h = refl
  earlier-passed t x y free (play ∷ plays) h =
      ap (λ (b : Cells). earlier_of r.shape b plays ++ stand_of r.shape b ∷ []) (h.1.turn n)

-- ---- the cell of the turn, where each side claims one point a turn

pub other_turn-low : (n : ℕ) → other_turn n ≤ 1
other_turn-low zero = omega arith
other_turn-low (suc n) = rw (ne_eqb (suc n) 0 (λ e. omega arith)) (omega arith)

other_turn-twice : (n : ℕ) → n ≤ 1 → other_turn (other_turn n) ≡ n
other_turn-twice zero h = refl
other_turn-twice (suc zero) h = refl
other_turn-twice (suc (suc n)) h = absurd (omega arith)

turn_of-other : (n : ℕ) → turn_of (other_turn n) ≡ other (turn_of n)
unfolding turn_of
turn_of-other zero = refl
turn_of-other (suc n) = rw (ne_eqb (suc n) 0 (λ e. omega arith)) refl

left_of-other : (n : ℕ) → n ≤ 1 → left_of (other_turn n) ≡ left_of n
unfolding left_of
left_of-other zero h = refl
left_of-other (suc zero) h = refl
left_of-other (suc (suc n)) h = absurd (omega arith)

-- the position that the cells say then
pub position-other : (r : Rules) (t : Cells) (x y free : List (List ℕ))
    → r.bias ≡ 1
    → Fits r t x y free
    → position_of r.shape (with_cell t turn_cell (other_turn (get_or t.cells turn_cell 0))).cells
    ≡ passed (position_of r.shape t.cells)
unfolding with_cell position_of
position-other r t x y free one fits =
    let n = get_or t.cells turn_cell 0 in
    let few : n ≤ 1 = omega (arith, fits.turn, one) in
    let low = other_turn-low n in
    position-passed r t x y free (other_turn n) fits (omega (arith, one, low))
    ∙ (λ i. record {
      x = (position_of r.shape t.cells).x;
      y = (position_of r.shape t.cells).y;
      turn = turn_of-other n i;
      left = left_of-other n few i;
    })

-- ---- there and back

own-number : (xs : List ℕ) → 1 ≤ length xs → set xs 0 (get_or xs 0 0) ≡ xs
own-number [] some = absurd (omega arith)
own-number (x ∷ xs) some = refl

own-cell : (t : Cells) (n : ℕ)
    → 1 ≤ length t.cells
    → n ≡ get_or t.cells turn_cell 0
    → with_cell t turn_cell n ≡ t
unfolding with_cell
own-cell t n some is =
    let cells : set t.cells turn_cell n ≡ t.cells =
    ap (set t.cells turn_cell) is ∙ own-number t.cells some in
    λ j. record { cells = cells j; entries = t.entries; spare = t.spare }

-- passed again, the board stands as before
pub passed-back : (a b c : View) → IsPassed a b → IsPassed b c → c ≡ a
unfolding with_cell
passed-back a b c there back =
    let was = get_or a.stand.trail.cells turn_cell 0 in
    let some = there.some in
    let at : get_or b.stand.trail.cells turn_cell 0 ≡ other_turn was =
    ap (λ (t : Cells). get_or t.cells turn_cell 0) there.trail
    ∙ get_or-set_same a.stand.trail.cells turn_cell (other_turn was) 0 (omega (arith, some)) in
    let number : other_turn (get_or b.stand.trail.cells turn_cell 0) ≡ was =
    ap other_turn at ∙ other_turn-twice was there.few in
    let trail : c.stand.trail ≡ a.stand.trail = back.trail
    ∙ ap (λ (t : Cells). with_cell t turn_cell
    (other_turn (get_or b.stand.trail.cells turn_cell 0))) there.trail
    ∙ with_cell-twice a.stand.trail turn_cell (other_turn was)
    (other_turn (get_or b.stand.trail.cells turn_cell 0))
    ∙ own-cell a.stand.trail (other_turn (get_or b.stand.trail.cells turn_cell 0)) some number in
    let position : c.stand.position ≡ a.stand.position = back.position
    ∙ ap passed there.position
    ∙ twice a.stand.position in
    let game = back.game ∙ there.game in
    let earlier = back.earlier ∙ there.earlier in
    λ i. record {
      game = game i;
      stand = record { position = position i; trail = trail i };
      earlier = earlier i;
    }
  where
    twice : (p : Position) → passed (passed p) ≡ p
    twice p = λ i. record { x = p.x; y = p.y; turn = other_other p.turn i; left = p.left }
