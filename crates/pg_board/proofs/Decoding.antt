-- The position that the cells say.
use Rattle.std.proofs.Common.{◌≡◌, ◌≢◌, ℕ, zero, suc, ◌-◌, ◌<◌, ◌≤◌, Bool, true, false, not, ◌&&◌}
use Rattle.std.proofs.Common.{List, get_or, eqb, ltb, refl, sym, ap, ◌∙◌, arith, inl, inr}
use Rattle.pg_board.proofs.Common.{cases_Bool, cases_eq, cases_lt, eq-eqb, ne_eqb, eqb-true, lt-ltb}
use Rattle.pg_board.proofs.Common.{le-ltb, and_parts, and_left, false≢true, empty, insert, contains}
use Rattle.pg_board.proofs.Common.{contains-empty, nat_cmp, in_insert, same_points, Side, X, Y}
use Rattle.pg_board.proofs.Common.{Position, is_free, points_of, after_with, x_after, y_after}
use Rattle.pg_board.proofs.Common.{turn_after, left_after}
use Rattle.pg_board.specs.Shape.{Shape, turn_cell, mark_cell}
use Rattle.pg_board.specs.Fits.{mark_of, has_mark, set_below, turn_of, left_of, position_of}
use Rattle.pg_board.specs.Points.{next_turn}

-- ---- sets

pub in_set_below : (t : ℕ → Bool) (n q : ℕ) → contains (set_below t n) q ≡ (ltb q n && t q)
unfolding set_below
in_set_below t zero q =
    contains-empty nat_cmp q ∙ sym (and_left (ltb q 0) (t q) (le-ltb q 0 (omega arith)))
in_set_below t (suc n) q =
    let rest = in_set_below t n q in
    elim (cases_eq q n) [
      | inl e ↦
          let below : ltb q (suc n) ≡ true = lt-ltb q (suc n) (omega arith) in
          let above : ltb q n ≡ false = le-ltb q n (omega arith) in
          let same : t q ≡ t n = ap t e in
          elim (cases_Bool (t n)) [
            | inl on ↦
                rw on (in_insert (set_below t n) n q ∙ rw (eq-eqb q n e, below, same, on) refl)
            | inr off ↦ rw off (rest ∙ rw (above, below, same, off) refl)
          ]
      | inr ne ↦
          let same : ltb q (suc n) ≡ ltb q n = elim (cases_lt q n) [
            | inl lt ↦ lt-ltb q (suc n) (omega arith) ∙ sym (lt-ltb q n lt)
            | inr ge ↦ le-ltb q (suc n) (omega arith) ∙ sym (le-ltb q n ge)
          ] in
          elim (cases_Bool (t n)) [
            | inl on ↦ rw on (in_insert (set_below t n) n q ∙ rw (ne_eqb q n ne, same) rest)
            | inr off ↦ rw off (rest ∙ rw same refl)
          ]
    ]

pub set_below-same : (t u : ℕ → Bool) (n : ℕ)
    → ((q : ℕ) → q < n → t q ≡ u q)
    → set_below t n ≡ set_below u n
set_below-same t u n same = same_points _ _ (λ q. in_set_below t n q ∙ (elim (cases_lt q n) [
  | inl lt ↦ ap (λ b. ltb q n && b) (same q lt)
  | inr ge ↦ and_left _ _ (le-ltb q n ge) ∙ sym (and_left _ _ (le-ltb q n ge))
] ∙ sym (in_set_below u n q)))

-- ---- marks

pub has-points : (s : Shape) (cells : List ℕ) (k : Side) (q : ℕ)
    → contains (points_of (position_of s cells) k) q ≡ (ltb q s.points && has_mark cells k q)
unfolding position_of
has-points s cells X q = in_set_below (has_mark cells X) s.points q
has-points s cells Y q = in_set_below (has_mark cells Y) s.points q

-- no point has both marks
pub one_mark : (cells : List ℕ) (q : ℕ) → has_mark cells X q ≡ true → has_mark cells Y q ≡ false
unfolding has_mark
one_mark cells q on =
    let is = eqb-true (get_or cells (mark_cell q) 0) 1 on in
    ne_eqb _ _ (λ e. omega arith)

-- a free point has no mark
pub no_mark : (s : Shape) (cells : List ℕ) (v : ℕ)
    → v < s.points
    → is_free (position_of s cells) v ≡ true
    → (k : Side) → has_mark cells k v ≡ false
no_mark s cells v low free X =
    let parts = and_parts (not (contains (position_of s cells).x v))
    (not (contains (position_of s cells).y v)) free in
    let at = has-points s cells X v in
    elim (cases_Bool (has_mark cells X v)) [
      | inl on ↦ absurd (false≢true (sym (Rattle.std.proofs.lemmas.Bool.not-true _ parts.0)
          ∙ (at ∙ rw (lt-ltb v s.points low, on) refl)))
      | inr off ↦ off
    ]
no_mark s cells v low free Y =
    let parts = and_parts (not (contains (position_of s cells).x v))
    (not (contains (position_of s cells).y v)) free in
    let at = has-points s cells Y v in
    elim (cases_Bool (has_mark cells Y v)) [
      | inl on ↦ absurd (false≢true (sym (Rattle.std.proofs.lemmas.Bool.not-true _ parts.1)
          ∙ (at ∙ rw (lt-ltb v s.points low, on) refl)))
      | inr off ↦ off
    ]

-- ---- a play

-- the turn passes as the rules say
turn-next : (bias cell : ℕ)
    → 1 ≤ bias
    → turn_of (next_turn bias cell)
    ≡ Rattle.pg_game.specs.Position.turn_after (let p : Position = record {
      x = empty;
      y = empty;
      turn = turn_of cell;
      left = left_of cell;
    } in
    p)
unfolding turn_of left_of
turn-next zero zero some = absurd (omega arith)
turn-next (suc bias) zero some = refl
turn-next bias (suc zero) some = refl
turn-next bias (suc (suc k)) some =
    let more : eqb (suc (suc k)) 0 ≡ false = ne_eqb (suc (suc k)) 0 (λ e. omega arith) in
    let fall : suc (suc k) - 1 ≡ suc k = omega arith in
    let two = lt-ltb 1 (suc (suc k)) (omega arith) in
    rw (more, fall, two) refl

left-next : (bias cell : ℕ)
    → 1 ≤ bias
    → left_of (next_turn bias cell) ≡ left_after bias (let p : Position = record {
      x = empty;
      y = empty;
      turn = turn_of cell;
      left = left_of cell;
    } in
    p)
unfolding turn_of left_of
left-next zero zero some = absurd (omega arith)
left-next (suc bias) zero some = refl
left-next bias (suc zero) some = refl
left-next bias (suc (suc k)) some =
    let more : eqb (suc (suc k)) 0 ≡ false = ne_eqb (suc (suc k)) 0 (λ e. omega arith) in
    let fall : suc (suc k) - 1 ≡ suc k = omega arith in
    let two = lt-ltb 1 (suc (suc k)) (omega arith) in
    rw (more, fall, two) refl

-- the cells after a play, as far as the position reads them
pub record Marked (s : Shape) (bias : ℕ) (side : Side) (v : ℕ) (cells now : List ℕ) : Type 0 where
  pub mark : get_or now (mark_cell v) 0 ≡ mark_of side
  pub others : (q : ℕ)
      → q < s.points
      → q ≢ v
      → get_or now (mark_cell q) 0 ≡ get_or cells (mark_cell q) 0
  pub turn : get_or now turn_cell 0 ≡ next_turn bias (get_or cells turn_cell 0)

mark-own : (s : Shape) (bias : ℕ) (side : Side) (v : ℕ) (cells now : List ℕ)
    → Marked s bias side v cells now
    → v < s.points
    → set_below (has_mark now side) s.points ≡ insert (set_below (has_mark cells side) s.points) v
unfolding has_mark
mark-own s bias side v cells now h low = same_points _ _ (λ q.
    in_set_below (has_mark now side) s.points q
    ∙ (elim (cases_eq q v) [
      | inl e ↦ rw e
          (rw (lt-ltb v s.points low, h.mark, eq-eqb (mark_of side) (mark_of side) refl) (sym
          (in_insert (set_below (has_mark cells side) s.points) v v ∙ rw (eq-eqb v v refl) refl)))
      | inr ne ↦ elim (cases_lt q s.points) [
        | inl lt ↦ ap (λ m. ltb q s.points && eqb m (mark_of side)) (h.others q lt ne)
        | inr ge ↦ and_left _ _ (le-ltb q s.points ge) ∙ sym (and_left _ _ (le-ltb q s.points ge))
      ]
          ∙ (sym (in_set_below (has_mark cells side) s.points q)
          ∙ sym
          (in_insert (set_below (has_mark cells side) s.points) v q ∙ rw (ne_eqb q v ne) refl))
    ]))

mark-other : (s : Shape) (bias : ℕ) (side k : Side) (v : ℕ) (cells now : List ℕ)
    → Marked s bias side v cells now
    → v < s.points
    → mark_of side ≢ mark_of k
    → has_mark cells k v ≡ false
    → set_below (has_mark now k) s.points ≡ set_below (has_mark cells k) s.points
unfolding has_mark
mark-other s bias side k v cells now h low apart none =
    set_below-same (has_mark now k) (has_mark cells k) s.points (λ q lt. elim (cases_eq q v) [
      | inl e ↦ rw e (rw h.mark (ne_eqb (mark_of side) (mark_of k) apart ∙ sym none))
      | inr ne ↦ ap (λ m. eqb m (mark_of k)) (h.others q lt ne)
    ])

pub marked-x : (s : Shape) (bias : ℕ) (side : Side) (v : ℕ) (cells now : List ℕ)
    → Marked s bias side v cells now
    → v < s.points
    → has_mark cells X v ≡ false
    → set_below (has_mark now X) s.points ≡ x_after side (set_below (has_mark cells X) s.points) v
marked-x s bias X v cells now h low none = mark-own s bias X v cells now h low
marked-x s bias Y v cells now h low none =
    mark-other s bias Y X v cells now h low (λ e. omega arith) none

pub marked-y : (s : Shape) (bias : ℕ) (side : Side) (v : ℕ) (cells now : List ℕ)
    → Marked s bias side v cells now
    → v < s.points
    → has_mark cells Y v ≡ false
    → set_below (has_mark now Y) s.points ≡ y_after side (set_below (has_mark cells Y) s.points) v
marked-y s bias Y v cells now h low none = mark-own s bias Y v cells now h low
marked-y s bias X v cells now h low none =
    mark-other s bias X Y v cells now h low (λ e. omega arith) none

-- the position after a play
pub position-after : (s : Shape) (bias v : ℕ) (cells now : List ℕ)
    → 1 ≤ bias
    → v < s.points
    → is_free (position_of s cells) v ≡ true
    → Marked s bias (turn_of (get_or cells turn_cell 0)) v cells now
    → position_of s now ≡ after_with bias (position_of s cells) v
unfolding position_of
position-after s bias v cells now some low free h =
    let side = turn_of (get_or cells turn_cell 0) in
    let x = marked-x s bias side v cells now h low (no_mark s cells v low free X) in
    let y = marked-y s bias side v cells now h low (no_mark s cells v low free Y) in
    let turn = ap turn_of h.turn ∙ turn-next bias (get_or cells turn_cell 0) some in
    let left = ap left_of h.turn ∙ left-next bias (get_or cells turn_cell 0) some in
    λ i. record { x = x i; y = y i; turn = turn i; left = left i }

-- ---- the turn

pub turn-x : (cell : ℕ) → cell ≡ 0 → X ≡ turn_of cell
unfolding turn_of
turn-x cell none = sym (ap turn_of none)

pub turn-y : (cell : ℕ) → cell ≢ 0 → Y ≡ turn_of cell
unfolding turn_of
turn-y zero some = absurd (some refl)
turn-y (suc k) some = refl

pub turn-of : (s : Shape) (cells : List ℕ)
    → (position_of s cells).turn ≡ turn_of (get_or cells turn_cell 0)
unfolding position_of
turn-of s cells = refl
