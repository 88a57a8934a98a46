-- A board while it is opened.
use Rattle.std.proofs.Common.{◌≡◌, ℕ, zero, suc, ◌+◌, ◌-◌, ◌<◌, ◌≤◌, Bool, true, false, not, ◌&&◌}
use Rattle.std.proofs.Common.{◌||◌, List, length, get_or, set, eqb, ltb, refl, sym, ap, ◌∙◌, arith}
use Rattle.std.proofs.Common.{inl, inr, subst}
use Rattle.pg_board.proofs.Common.{cases_eq, cases_lt, eq-eqb, ne_eqb, eqb-true, lt-ltb, le-ltb}
use Rattle.pg_board.proofs.Common.{and_right, false≢true, cases_eq, get_or-set_same}
use Rattle.pg_board.proofs.Common.{get_or-set_other, length-set, count_by, filter, range_with_len}
use Rattle.pg_board.proofs.Common.{FinSet, contains, nat_cmp, Side, X, Y, other, Position, is_free}
use Rattle.pg_board.proofs.Common.{points_of, after_with, is_same_side, Cells, with_set}
use Rattle.pg_board.specs.Shape.{Shape, line_in, turn_cell, mark_cell}
use Rattle.pg_board.specs.Counts.{is_clear, clear_lines}
use Rattle.pg_board.specs.Fits.{Rules, Fits, Leads, has_mark, mark_of, turn_of, position_of}
use Rattle.pg_board.specs.Fits.{set_below, summed, entries_of, free_points_in}
use Rattle.pg_board.specs.Opening.{Opens, turn_code}
use Rattle.pg_board.specs.declared.rings.Rings.{Rings}
use Rattle.pg_board.proofs.CellPlaces.{mark_cell-is}
use Rattle.pg_board.proofs.Claiming.{same_side, is_own, is_others}
use Rattle.pg_board.proofs.Decoding.{turn-of}
use Rattle.pg_board.proofs.Positions.{points-after, free-other, free-gone, summed-without}
use Rattle.pg_board.proofs.Fitting.{same-counts, same-counted, some-cells}

-- ---- another side is to move

marks-same : (cells : List ℕ) (n : ℕ) (k : Side)
    → has_mark (set cells turn_cell n) k ≡ has_mark cells k
unfolding has_mark
marks-same cells n k = λ i v. eqb (get_or-set_other cells turn_cell (mark_cell v) n 0
    (λ e. (let at = mark_cell-is v in omega arith)) i) (mark_of k)

pub turned-x : (s : Shape) (cells : List ℕ) (n : ℕ)
    → (position_of s (set cells turn_cell n)).x ≡ (position_of s cells).x
unfolding position_of
turned-x s cells n = ap (λ t. set_below t s.points) (marks-same cells n X)

pub turned-y : (s : Shape) (cells : List ℕ) (n : ℕ)
    → (position_of s (set cells turn_cell n)).y ≡ (position_of s cells).y
unfolding position_of
turned-y s cells n = ap (λ t. set_below t s.points) (marks-same cells n Y)

turned-points : (s : Shape) (cells : List ℕ) (n : ℕ) (k : Side)
    → points_of (position_of s (set cells turn_cell n)) k ≡ points_of (position_of s cells) k
turned-points s cells n X = turned-x s cells n
turned-points s cells n Y = turned-y s cells n

turned-free : (s : Shape) (cells : List ℕ) (n : ℕ)
    → is_free (position_of s (set cells turn_cell n)) ≡ is_free (position_of s cells)
turned-free s cells n =
    λ i v. not (contains (turned-x s cells n i) v) && not (contains (turned-y s cells n i) v)

turned-free_points : (s : Shape) (cells : List ℕ) (n : ℕ)
    → free_points_in s (position_of s (set cells turn_cell n))
    ≡ free_points_in s (position_of s cells)
unfolding free_points_in
turned-free_points s cells n =
    ap (λ t. filter t (range_with_len 0 s.points)) (turned-free s cells n)

pub fits-turned : (r : Rules) (t : Cells) (x y free : List (List ℕ)) (n : ℕ)
    → Fits r t x y free
    → n ≤ r.bias
    → summed (entries_of r.shape) (is_free (position_of r.shape t.cells)) r.shape.points + 1
    ≤ t.spare
    → Fits r (with_set t turn_cell n) x y free
unfolding with_set clear_lines
fits-turned r t x y free n fits few room =
    let beyond : (k : ℕ) → r.shape.points < k
    → get_or (set t.cells turn_cell n) k 0 ≡ get_or t.cells k 0 =
    λ k high. get_or-set_other t.cells turn_cell k n 0 (λ e. omega arith) in
    let counts = same-counts r.shape t.cells (set t.cells turn_cell n) beyond in
    let some = some-cells r t x y free fits in
    record {
      shape = fits.shape;
      some_bias = fits.some_bias;
      few_bias = fits.few_bias;
      few_weights = fits.few_weights;
      turn = subst (λ m. m ≤ r.bias) (sym (get_or-set_same t.cells turn_cell n 0 some)) few;
      counted = same-counted r.shape t.cells (set t.cells turn_cell n) fits.counted
          (length-set t.cells turn_cell n) beyond;
      counts = λ k i low. ap (λ (c : Side → ℕ → ℕ). c k i) counts
          ∙ (fits.counts k i low
          ∙ ap (λ (q : FinSet nat_cmp). count_by (contains q) (line_in r.shape i))
          (sym (turned-points r.shape t.cells n k)));
      live = λ k. fits.live k
          ∙ ap (λ (c : Side → ℕ → ℕ).
          filter (is_clear c k) (range_with_len 0 (length r.shape.lines))) (sym counts);
      free_is = fits.free_is ∙ sym (turned-free_points r.shape t.cells n);
      some_live = fits.some_live;
      some_free = fits.some_free;
      room = subst (λ f. summed (entries_of r.shape) f r.shape.points ≤ t.spare - 1)
          (sym (turned-free r.shape t.cells n)) (omega arith);
    }

-- ---- one mark more

code-turn : (side : Side) (bias : ℕ) → 1 ≤ bias → turn_of (turn_code side bias) ≡ side
unfolding turn_of
code-turn X bias some = refl
code-turn Y zero some = absurd (omega arith)
code-turn Y (suc k) some = refl

pub code-few : (side : Side) (bias : ℕ) → turn_code side bias ≤ bias
code-few X bias = omega arith
code-few Y bias = omega arith

ltb-more : (q v : ℕ) → ltb q (v + 1) ≡ (eqb q v || ltb q v)
ltb-more q v = elim (cases_eq q v) [
  | inl e ↦ rw (eq-eqb q v e) (lt-ltb q (v + 1) (omega arith))
  | inr ne ↦ rw (ne_eqb q v ne) (elim (cases_lt q v) [
    | inl lt ↦ lt-ltb q (v + 1) (omega arith) ∙ sym (lt-ltb q v lt)
    | inr ge ↦ le-ltb q (v + 1) (omega arith) ∙ sym (le-ltb q v ge)
  ])
]

own-mark : (a e l : Bool) → (e ≡ true → a ≡ true) → ((true && e) || (a && l)) ≡ (a && (e || l))
own-mark true true l h = refl
own-mark true false l h = refl
own-mark false true l h = absurd (false≢true (h refl))
own-mark false false l h = refl

other-mark : (a e l : Bool) → (e ≡ true → a ≡ false) → ((false && e) || (a && l)) ≡ (a && (e || l))
other-mark true true l h = absurd (false≢true (sym (h refl)))
other-mark true false l h = refl
other-mark false true l h = refl
other-mark false false l h = refl

-- a point that isn't marked yet is free
pub unmarked-free : (r : Rules) (p : Position) (v : ℕ) (t : Cells) (rings : Rings)
    → Opens r p v t rings
    → is_free (position_of r.shape t.cells) v ≡ true
unmarked-free r p v t rings opens =
    let none : (k : Side) → contains (points_of (position_of r.shape t.cells) k) v ≡ false =
    λ k. opens.marks k v ∙ and_right _ _ (le-ltb v v (omega arith)) in
    let none_x : contains (position_of r.shape t.cells).x v ≡ false = none X in
    let none_y : contains (position_of r.shape t.cells).y v ≡ false = none Y in
    rw (none_x, none_y) refl

pub turned-unmarked : (r : Rules) (p : Position) (v n : ℕ) (t : Cells) (rings : Rings)
    → Opens r p v t rings
    → is_free (position_of r.shape (with_set t turn_cell n).cells) v ≡ true
unfolding with_set
turned-unmarked r p v n t rings opens =
    ap (λ (f : ℕ → Bool). f v) (turned-free r.shape t.cells n)
    ∙ unmarked-free r p v t rings opens

pub turned-fits : (r : Rules) (p : Position) (v n : ℕ) (t : Cells) (rings : Rings)
    → Opens r p v t rings
    → n ≤ r.bias
    → Fits r (with_set t turn_cell n) rings.live_x rings.live_y rings.free
turned-fits r p v n t rings opens few = fits-turned r t rings.live_x rings.live_y rings.free n
    opens.fits few (omega (arith, opens.room))

pub opens-more : (r : Rules) (p : Position) (side : Side) (v : ℕ) (t : Cells)
    (rings : Rings) (now : Cells) (rings_now : Rings)
    → Opens r p v t rings
    → v < r.shape.points
    → contains (points_of p side) v ≡ true
    → contains (points_of p (other side)) v ≡ false
    → Leads r (with_set t turn_cell (turn_code side r.bias))
    rings.live_x rings.live_y rings.free now rings_now.live_x rings_now.live_y rings_now.free v
    → Opens r p (v + 1) now rings_now
unfolding with_set
opens-more r p side v t rings now rings_now opens low own theirs leads =
    let n = turn_code side r.bias in
    let was = position_of r.shape (set t.cells turn_cell n) in
    let some = some-cells r t rings.live_x rings.live_y rings.free opens.fits in
    let mover : was.turn ≡ side = turn-of r.shape (set t.cells turn_cell n)
    ∙ (ap turn_of (get_or-set_same t.cells turn_cell n 0 some)
    ∙ code-turn side r.bias opens.fits.some_bias) in
    let free_was : is_free was v ≡ true = ap (λ (f : ℕ → Bool). f v) (turned-free r.shape t.cells n)
    ∙ unmarked-free r p v t rings opens in
    let sum = summed-without (entries_of r.shape) (is_free was)
    (is_free (after_with r.bias was v)) v r.shape.points low free_was (free-gone r.bias was v)
    (λ q q_low apart. free-other r.bias was v q apart) in
    let same_sum =
    ap (λ f. summed (entries_of r.shape) f r.shape.points) (turned-free r.shape t.cells n) in
    let now_sum =
    ap (λ (q : Position). summed (entries_of r.shape) (is_free q) r.shape.points) leads.position in
    let entries = leads.spare in
    record {
      fits = leads.fits;
      marks = λ k q.
          let after = ap (λ (z : Position). contains (points_of z k) q) leads.position
          ∙ points-after r.bias was k v q in
          let before = ap (λ (z : FinSet nat_cmp). contains z q) (turned-points r.shape t.cells n k)
          ∙ opens.marks k q in
          after
          ∙ (ap (λ b. (is_same_side k was.turn && eqb q v) || b) before
          ∙ (ap (λ m. (is_same_side k m && eqb q v) || (contains (points_of p k) q && ltb q v))
          mover
          ∙ (elim (same_side side k) [
            | inl e ↦ rw (e, is_own side)
                (own-mark _ (eqb q v) (ltb q v)
                (λ on. ap (contains (points_of p side)) (eqb-true q v on) ∙ own))
            | inr e ↦ rw (e, is_others side)
                (other-mark _ (eqb q v) (ltb q v)
                (λ on. ap (contains (points_of p (other side))) (eqb-true q v on) ∙ theirs))
          ]
          ∙ ap (λ b. contains (points_of p k) q && b) (sym (ltb-more q v)))));
      room = omega (arith, opens.room);
    }

-- a point without a mark
pub opens-skip : (r : Rules) (p : Position) (v : ℕ) (t : Cells) (rings : Rings)
    → Opens r p v t rings
    → contains p.x v ≡ false
    → contains p.y v ≡ false
    → Opens r p (v + 1) t rings
opens-skip r p v t rings opens none_x none_y = record {
  fits = opens.fits;
  marks = λ k q. opens.marks k q
      ∙ (skip k q ∙ ap (λ b. contains (points_of p k) q && b) (sym (ltb-more q v)));
  room = omega (arith, opens.room);
}
  where
    none : (k : Side) → contains (points_of p k) v ≡ false
    none X = none_x
    none Y = none_y

    skip : (k : Side) (q : ℕ)
        → (contains (points_of p k) q && ltb q v)
        ≡ (contains (points_of p k) q && (eqb q v || ltb q v))
    skip k q = other-mark (contains (points_of p k) q) (eqb q v) (ltb q v)
        (λ on. ap (contains (points_of p k)) (eqb-true q v on) ∙ none k)
