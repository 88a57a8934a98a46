-- A board that fits its position does so after a play.
use Rattle.std.proofs.Common.{◌≡◌, ◌≢◌, ℕ, ◌+◌, ◌-◌, ◌*◌, ◌<◌, ◌≤◌, true, false, ◌&&◌, List, []}
use Rattle.std.proofs.Common.{◌∷◌, length, get_or, set, take, eqb, refl, sym, ap, ◌∙◌, arith, inl}
use Rattle.std.proofs.Common.{inr, subst}
use Rattle.pg_board.proofs.Common.{cases_eq, eq-eqb, ne_eqb, and_right, get_or-set_same}
use Rattle.pg_board.proofs.Common.{get_or-set_other, length-set, length_push, take_all, take_at}
use Rattle.pg_board.proofs.Common.{Contains, contains, one_if, Side, X, Y, other, is_same_side}
use Rattle.pg_board.proofs.Common.{is_free, points_of, after_with, is_on, present, without, Cells}
use Rattle.pg_board.proofs.Common.{with_set, with_cell, back_to, Extends, extends-set}
use Rattle.pg_board.proofs.Common.{extends-both, extends-back, back_to-with_cell}
use Rattle.pg_board.specs.Shape.{Shape, line_in, lines_through, degree_in, turn_cell, mark_cell}
use Rattle.pg_board.specs.Shape.{count_cell, free_cell, cell_count}
use Rattle.pg_board.specs.Counts.{AreCounted, count_in, lines_with, is_clear, clear_lines}
use Rattle.pg_board.specs.Lines.{clear_in}
use Rattle.pg_board.specs.Points.{ClaimsPoint, next_turn}
use Rattle.pg_board.specs.Fits.{Rules, Fits, AreFit, IsPlayed, PlaysBack, Leads, pick, fewer}
use Rattle.pg_board.specs.Fits.{left_by, mark_of, turn_of, position_of, summed, entries_of}
use Rattle.pg_board.specs.Fits.{free_points_in, held_in}
use Rattle.pg_board.specs.declared.plays.Played.{Played}
use Rattle.pg_board.proofs.CellPlaces.{mark_cell-is, mark-within, count_cell-low, free_cell-low}
use Rattle.pg_board.proofs.Claiming.{same_side, is_own, is_others}
use Rattle.pg_board.proofs.Ranges.{filter-same}
use Rattle.pg_board.proofs.LineSteps.{present-push}
use Rattle.pg_board.proofs.Through.{through-any}
use Rattle.pg_board.proofs.Decoding.{has-points, one_mark, no_mark, Marked, position-after, turn-of}
use Rattle.pg_board.proofs.Positions.{free-without, free-other, free-gone, summed-without}
use Rattle.pg_board.proofs.Positions.{count-after, three-few, some-at, one-fewer, free-member}

-- ---- cells beyond the marks

-- cells that agree beyond the marks count alike
pub same-counts : (s : Shape) (cells now : List ℕ)
    → ((k : ℕ) → s.points < k → get_or now k 0 ≡ get_or cells k 0)
    → count_in s now ≡ count_in s cells
same-counts s cells now same = λ i k j. same (count_cell s k j) (count_cell-low s k j) i

pub same-counted : (s : Shape) (cells now : List ℕ)
    → AreCounted s cells
    → length now ≡ length cells
    → ((k : ℕ) → s.points < k → get_or now k 0 ≡ get_or cells k 0)
    → AreCounted s now
same-counted s cells now h width same =
    let counts = same-counts s cells now same in
    record {
      width = width ∙ h.width;
      within = λ i low. subst (λ (c : Side → ℕ → ℕ). c X i + c Y i ≤ length (line_in s i))
          (sym counts) (h.within i low);
      lines = λ k f short.
          let low = free_cell-low s k f in
          same (free_cell s k f) (omega arith)
          ∙ (h.lines k f short ∙ ap (λ c. lines_with s c k f) (sym counts));
    }

-- a free point leaves room in the lines that hold it
pub open-lines : (r : Rules) (t : Cells) (x y free : List (List ℕ)) (v : ℕ)
    → Fits r t x y free
    → v < r.shape.points
    → is_free (position_of r.shape t.cells) v ≡ true
    → (i : ℕ) → i < length r.shape.lines
    → is_on v (line_in r.shape i) ≡ true
    → count_in r.shape t.cells X i + count_in r.shape t.cells Y i < length (line_in r.shape i)
open-lines r t x y free v fits low is i i_low on =
    let s = r.shape in
    let p = position_of s t.cells in
    let off : (k : Side) → contains (points_of p k) v ≡ false =
    λ k. has-points s t.cells k v ∙ and_right _ _ (no_mark s t.cells v low is k) in
    let apart : (q : ℕ) → contains (points_of p X) q ≡ true → contains (points_of p Y) q ≡ false =
    λ q has. has-points s t.cells Y q
    ∙ and_right _ _ (one_mark t.cells q
    (Rattle.std.proofs.lemmas.Bool.and_parts _ _ (sym (has-points s t.cells X q) ∙ has)).1) in
    let few = three-few (contains (points_of p X)) (contains (points_of p Y)) v (line_in s i) apart
    (off X) (off Y) in
    let some = some-at v (line_in s i) on in
    omega (arith, fits.counts X i i_low, fits.counts Y i i_low)

-- a free point leaves room in the trail
pub room-now : (r : Rules) (t : Cells) (x y free : List (List ℕ)) (v : ℕ)
    → Fits r t x y free
    → v < r.shape.points
    → is_free (position_of r.shape t.cells) v ≡ true
    → 2 + 4 * degree_in r.shape v ≤ t.spare
room-now r t x y free v fits low is =
    let p = position_of r.shape t.cells in
    let sum = summed-without (entries_of r.shape) (is_free p) (is_free (after_with r.bias p v)) v
    r.shape.points low is (free-gone r.bias p v) (λ q q_low apart. free-other r.bias p v q apart) in
    omega (arith, fits.room)

module _ (r : Rules) (t t2 now : Cells) (x y free x2 y2 free2 : List (List ℕ)) (v : ℕ) (side : Side)
    (fits : Fits r t x y free) (mover : side ≡ turn_of (get_or t.cells turn_cell 0))
    (low : v < r.shape.points) (is : is_free (position_of r.shape t.cells) v ≡ true)
    (h : ClaimsPoint r.shape side v t t2 (pick side x y) (pick side x2 y2) free free2)
    (theirs : pick (other side) x2 y2 ≡ pick (other side) x y)
    (passed : now ≡ with_set t2 turn_cell (next_turn r.bias (get_or t2.cells turn_cell 0))) where
  s : Shape
  s = r.shape

  between-is : now.cells ≡ set (set h.between.cells (mark_cell v) (mark_of side)) turn_cell
      (next_turn r.bias (get_or t2.cells turn_cell 0))
  unfolding with_set
  between-is = ap (λ (c : Cells). c.cells) passed
      ∙ ap (λ (c : Cells). set c.cells turn_cell (next_turn r.bias (get_or t2.cells turn_cell 0)))
      h.mark

  marked-is : t2.cells ≡ set h.between.cells (mark_cell v) (mark_of side)
  unfolding with_set
  marked-is = ap (λ (c : Cells). c.cells) h.mark

  width-is : length h.between.cells ≡ cell_count r.shape
  width-is = h.lines.counted.width

  -- cells that the play leaves
  left-as : (k : ℕ) → k ≢ 0 → k ≢ mark_cell v → get_or now.cells k 0 ≡ get_or h.between.cells k 0
  left-as k some apart = ap (λ c. get_or c k 0) between-is
      ∙ (get_or-set_other (set h.between.cells (mark_cell v) (mark_of side)) turn_cell k
      (next_turn r.bias (get_or t2.cells turn_cell 0)) 0 some
      ∙ get_or-set_other h.between.cells (mark_cell v) k (mark_of side) 0 apart)

  extends-claimed : Extends (4 * degree_in r.shape v + 1) t t2
  extends-claimed =
      let room = room-now r t x y free v fits low is in
      let one = h.lines.trail in
      let marked = extends-set h.between (mark_cell v) (mark_of side)
      (omega (arith, room, one.spare, one.bound)) in
      subst (λ c. Extends (4 * degree_in r.shape v + 1) t c) (sym h.mark)
      (extends-both (4 * degree_in r.shape v) 1 t h.between _ one marked)

  claimed-room : 1 ≤ t2.spare
  claimed-room =
      let room = room-now r t x y free v fits low is in
      let whole = extends-claimed in
      omega (arith, room, whole.spare, whole.bound)

  pub extends-now : Extends (4 * degree_in r.shape v + 2) t now
  extends-now =
      let third = extends-both (4 * degree_in r.shape v + 1) 1 t t2 _ extends-claimed
      (extends-set t2 turn_cell (next_turn r.bias (get_or t2.cells turn_cell 0)) claimed-room) in
      let same : 4 * degree_in r.shape v + 1 + 1 ≡ 4 * degree_in r.shape v + 2 = omega arith in
      subst (λ k. Extends k t now) same
      (subst (λ c. Extends (4 * degree_in r.shape v + 1 + 1) t c) (sym passed) third)

  -- the play is taken back whatever the cell of the turn holds
  turn-any : (n : ℕ)
      → back_to (length t.entries) (with_cell now turn_cell n) ≡ back_to (length t.entries) now
  turn-any n = subst (λ (c : Cells).
      back_to (length t.entries) (with_cell c turn_cell n) ≡ back_to (length t.entries) c)
      (sym passed)
      (back_to-with_cell (length t.entries) t2 turn_cell
      (next_turn r.bias (get_or t2.cells turn_cell 0)) n extends-claimed.more claimed-room)

  turn-was : get_or t2.cells turn_cell 0 ≡ get_or t.cells turn_cell 0
  turn-was =
      let at = mark_cell-is v in
      ap (λ c. get_or c 0 0) marked-is
      ∙ (get_or-set_other h.between.cells (mark_cell v) 0 (mark_of side) 0 (λ e. omega arith)
      ∙ h.lines.claimed.marks 0 (omega arith))

  marked-now : Marked r.shape r.bias side v t.cells now.cells
  marked-now =
      let at = mark_cell-is v in
      let within = mark-within r.shape (1 + v) (omega arith) in
      let start = mark-within r.shape 0 (omega arith) in
      record {
        mark = ap (λ c. get_or c (mark_cell v) 0) between-is
            ∙ (get_or-set_other (set h.between.cells (mark_cell v) (mark_of side)) turn_cell
            (mark_cell v) (next_turn r.bias (get_or t2.cells turn_cell 0)) 0 (λ e. omega arith)
            ∙ get_or-set_same h.between.cells (mark_cell v) (mark_of side) 0 (omega (
              arith,
              width-is,
            )));
        others = λ q q_low apart.
            let other_at = mark_cell-is q in
            left-as (mark_cell q) (λ e. omega arith) (λ e. apart (omega arith))
            ∙ h.lines.claimed.marks (mark_cell q) (omega arith);
        turn = ap (λ c. get_or c 0 0) between-is
            ∙ (get_or-set_same (set h.between.cells (mark_cell v) (mark_of side)) turn_cell
            (next_turn r.bias (get_or t2.cells turn_cell 0)) 0 (omega (
              arith,
              width-is,
              length-set h.between.cells (mark_cell v) (mark_of side),
            ))
            ∙ ap (next_turn r.bias) turn-was);
      }

  pub position-now : position_of r.shape now.cells
      ≡ after_with r.bias (position_of r.shape t.cells) v
  position-now = position-after r.shape r.bias v t.cells now.cells fits.some_bias low is
      (subst (λ k. Marked r.shape r.bias k v t.cells now.cells) mover marked-now)

  beyond : (k : ℕ) → r.shape.points < k → get_or now.cells k 0 ≡ get_or h.between.cells k 0
  beyond k high = let at = mark_cell-is v in left-as k (λ e. omega arith) (λ e. omega arith)

  counts-now : count_in r.shape now.cells ≡ count_in r.shape h.between.cells
  counts-now = same-counts r.shape h.between.cells now.cells beyond

  count-is : (k : Side) (i : ℕ)
      → i < length r.shape.lines
      → count_in r.shape now.cells k i
      ≡ count_in r.shape t.cells k i + one_if (is_same_side k side && is_on v (line_in r.shape i))
  count-is k i i_low = ap (λ (c : Side → ℕ → ℕ). c k i) counts-now
      ∙ (h.lines.claimed.counts k i i_low
      ∙ ap (λ b. count_in r.shape t.cells k i + one_if (is_same_side k side && b))
      (through-any r.shape v i i_low))

  turn-few : next_turn r.bias (get_or t.cells turn_cell 0) ≤ r.bias
  turn-few = few r.bias (get_or t.cells turn_cell 0) fits.turn
    where
      few : (bias cell : ℕ) → cell ≤ bias → next_turn bias cell ≤ bias
      few bias cell low = elim (cases_eq cell 0) [
        | inl e ↦ rw (eq-eqb cell 0 e) (omega arith)
        | inr ne ↦ rw (ne_eqb cell 0 ne) (omega arith)
      ]

  live-now : (k : Side)
      → present (pick k x2 y2) ≡ clear_lines r.shape (count_in r.shape now.cells) k
  unfolding clear_lines
  live-now k = elim (same_side side k) [
    | inl e ↦ rw e (h.lines.live ∙ ap (λ c. clear_lines r.shape c side) (sym counts-now))
    | inr e ↦ rw e (ap present theirs
        ∙ (fits.live (other side)
        ∙ sym (filter-same (is_clear (count_in r.shape t.cells) (other side))
        (is_clear (count_in r.shape now.cells) (other side)) 0 (length r.shape.lines)
        (λ i above below. ap (λ n. eqb n 0) (count-is (other side) i (omega arith)
        ∙ (ap (λ b. count_in r.shape t.cells (other side) i
        + one_if (b && is_on v (line_in r.shape i))) (is_others side)
        ∙ omega arith))))))
  ]

  some-now : (k : Side) → 1 ≤ length (pick k x2 y2)
  some-now k = elim (same_side side k) [
    | inl e ↦ rw e (let was = fits.some_live side in omega (arith, h.lines.longer.longer))
    | inr e ↦ rw e
        (subst (λ (ls : List (List ℕ)). 1 ≤ length ls) (sym theirs) (fits.some_live (other side)))
  ]

  pub fits-now : Fits r now x2 y2 free2
  fits-now =
      let p = position_of r.shape t.cells in
      let sum = summed-without (entries_of r.shape) (is_free p)
      (is_free (after_with r.bias p v)) v r.shape.points low is (free-gone r.bias p v)
      (λ q q_low apart. free-other r.bias p v q apart) in
      let whole = extends-now in
      record {
        shape = fits.shape;
        some_bias = fits.some_bias;
        few_bias = fits.few_bias;
        few_weights = fits.few_weights;
        turn = subst (λ n. n ≤ r.bias) (sym marked-now.turn) turn-few;
        counted = same-counted r.shape h.between.cells now.cells h.lines.counted
            (ap length between-is
            ∙ (length-set _ _ _ ∙ length-set h.between.cells (mark_cell v) (mark_of side))) beyond;
        counts = λ k i i_low.
            let line = fits.shape.lines i [] i_low in
            let off : contains (points_of p k) v ≡ false =
            has-points r.shape t.cells k v ∙ and_right _ _ (no_mark r.shape t.cells v low is k) in
            let after = count-after r.bias p k v (line_in r.shape i) line.ascending off in
            let same : (is_same_side k side && is_on v (line_in r.shape i))
            ≡ (is_same_side k p.turn && is_on v (line_in r.shape i)) =
            ap (λ m. is_same_side k m && is_on v (line_in r.shape i))
            (mover ∙ sym (turn-of r.shape t.cells)) in
            count-is k i i_low
            ∙ ((λ j. fits.counts k i i_low j + one_if (same j))
            ∙ (sym after ∙ ap (λ q. held_in r.shape q k i) (sym position-now)));
        live = live-now;
        free_is = ap present h.unlinked
            ∙ (present-push free _
            ∙ (ap (without v) fits.free_is
            ∙ (free-without r.shape r.bias p v ∙ ap (free_points_in r.shape) (sym position-now))));
        some_live = some-now;
        some_free = subst (λ (ls : List (List ℕ)). 1 ≤ length ls) (sym h.unlinked)
            (let more = length_push free (without v (present free)) in omega arith);
        room = subst (λ q. summed (entries_of r.shape) (is_free q) r.shape.points ≤ now.spare)
            (sym position-now) (omega (arith, whole.spare, whole.bound, fits.room));
      }

  -- ---- with the play before it

  left-own : left_by r.shape t.cells side v
      ≡ clear_in r.shape t.cells side (lines_through r.shape v)
  unfolding left_by
  left-own = rw (sym mover, is_own side) refl

  left-theirs : left_by r.shape t.cells (other side) v ≡ 0
  unfolding left_by
  left-theirs = rw (sym mover, is_others side) refl

  shorter : (k : Side)
      → (left_by r.shape t.cells k v < length (pick k x2 y2))
      × (fewer (left_by r.shape t.cells k v) (pick k x2 y2) ≡ pick k x y)
  shorter k = elim (same_side side k) [
    | inl e ↦ rw e (
        let grown = h.lines.longer in
        let was = fits.some_live side in
        rw left-own (
          (let low = grown.longer in omega arith),
          ap (λ n. take n (pick side x2 y2)) (let more = grown.longer in omega arith) ∙ grown.kept,
        ))
    | inr e ↦ rw e (
        let was = fits.some_live (other side) in
        rw left-theirs (
          subst (λ (ls : List (List ℕ)). 0 < length ls) (sym theirs) (omega arith),
          take_all _ (pick (other side) x2 y2) (omega arith) ∙ theirs,
        ))
  ]

  free-fewer : fewer 1 free2 ≡ free
  free-fewer =
      let more = length_push free (without v (present free)) in
      let longer : length free2 ≡ length free + 1 = ap length h.unlinked ∙ more in
      ap (λ n. take n free2) (omega arith)
      ∙ (ap (take (length free)) h.unlinked
      ∙ take_at free (without v (present free) ∷ []) (length free) refl)

  pub free-one : length (present free2) + 1 ≡ length (present free)
  free-one =
      let p = position_of r.shape t.cells in
      let one = one-fewer r.shape r.bias p v low is in
      let now_is : length (present free2)
      ≡ length (free_points_in r.shape (after_with r.bias p v)) =
      ap length (fits-now.free_is ∙ ap (free_points_in r.shape) position-now) in
      let was : length (present free) ≡ length (free_points_in r.shape p) =
      ap length fits.free_is in
      omega arith

  pub plays-back : PlaysBack r t x y free now x2 y2 free2
      (record { point = v; level = length t.entries })
  plays-back =
      let whole = extends-now in
      let back = extends-back _ t now whole in
      let shorter_x = shorter X in
      let shorter_y = shorter Y in
      let one = free-one in
      let longer : length free2 ≡ length free + 1 =
      ap length h.unlinked ∙ length_push free (without v (present free)) in
      record {
        played = record {
          level = whole.more;
          range = low;
          lists = λ k. rw back (shorter k).0;
          free_lists = (let some = fits.some_free in omega arith);
          one_more = ap (λ (ls : List (List ℕ)). length (present ls)) free-fewer ∙ sym one;
          turn = turn-any;
        };
        trail = back;
        x_back = shorter_x.1;
        y_back = shorter_y.1;
        free_back = free-fewer;
      }

  pub leads : Leads r t x y free now x2 y2 free2 v
  leads = record {
    fits = fits-now;
    position = position-now;
    back = plays-back;
    entries = (let whole = extends-now in omega (arith, whole.bound));
    one_fewer = free-one;
    spare = (let whole = extends-now in omega (arith, whole.bound, whole.spare));
  }

pub fit-more : (r : Rules) (t : Cells) (x y free : List (List ℕ)) (now : Cells)
    (x2 y2 free2 : List (List ℕ)) (play : Played) (plays : List Played)
    → AreFit r t x y free plays
    → Fits r now x2 y2 free2
    → PlaysBack r t x y free now x2 y2 free2 play
    → AreFit r now x2 y2 free2 (play ∷ plays)
unfolding AreFit
fit-more r t x y free now x2 y2 free2 play plays before fits back =
    (fits, back.played, rw (back.trail, back.x_back, back.y_back, back.free_back) before)

pub fit-first : (r : Rules) (t : Cells) (x y free : List (List ℕ)) (plays : List Played)
    → AreFit r t x y free plays
    → Fits r t x y free
unfolding AreFit
fit-first r t x y free [] h = h
fit-first r t x y free (play ∷ plays) h = h.0

pub fit-played : (r : Rules) (t : Cells) (x y free : List (List ℕ)) (play : Played)
    (plays : List Played)
    → AreFit r t x y free (play ∷ plays)
    → IsPlayed r t x y free play
unfolding AreFit
fit-played r t x y free play plays h = h.1

pub fit-before : (r : Rules) (t : Cells) (x y free : List (List ℕ)) (play : Played)
    (plays : List Played)
    → AreFit r t x y free (play ∷ plays)
    → AreFit r (back_to play.level t)
    (fewer (left_by r.shape (back_to play.level t).cells X play.point) x)
    (fewer (left_by r.shape (back_to play.level t).cells Y play.point) y) (fewer 1 free) plays
unfolding AreFit
fit-before r t x y free play plays h = h.2

-- ---- for the calls

pub some-cells : (r : Rules) (t : Cells) (x y free : List (List ℕ))
    → Fits r t x y free
    → 1 ≤ length t.cells
unfolding cell_count
some-cells r t x y free fits = omega (arith, fits.counted.width)

pub free-now : (r : Rules) (t : Cells) (x y free : List (List ℕ)) (v : ℕ)
    → Fits r t x y free
    → v < r.shape.points
    → is_free (position_of r.shape t.cells) v ≡ true
    → Contains (present free) v
free-now r t x y free v fits low is =
    rw fits.free_is (free-member r.shape (position_of r.shape t.cells) v low is)

-- what is left for the turn once the point is claimed
pub record Rest (t t2 : Cells) : Type 0 where
  pub width : 1 ≤ length t2.cells
  pub spare : 1 ≤ t2.spare

pub rest-now : (r : Rules) (t t2 : Cells) (x y free lists lists2 free2 : List (List ℕ)) (v : ℕ)
    (side : Side)
    → Fits r t x y free
    → v < r.shape.points
    → is_free (position_of r.shape t.cells) v ≡ true
    → ClaimsPoint r.shape side v t t2 lists lists2 free free2
    → Rest t t2
unfolding with_set
rest-now r t t2 x y free lists lists2 free2 v side fits low is h =
    let room = room-now r t x y free v fits low is in
    let some = some-cells r t x y free fits in
    let trail = h.lines.trail in
    record {
      width = rw h.mark
          (omega (arith, length-set h.between.cells (mark_cell v) (mark_of side), trail.width));
      spare = rw h.mark (omega (arith, trail.spare, trail.bound));
    }

pub left_by-own : (s : Shape) (cells : List ℕ) (side : Side) (v : ℕ)
    → side ≡ turn_of (get_or cells turn_cell 0)
    → left_by s cells side v ≡ clear_in s cells side (lines_through s v)
unfolding left_by
left_by-own s cells side v mover = rw (sym mover, is_own side) refl

pub left_by-other : (s : Shape) (cells : List ℕ) (side : Side) (v : ℕ)
    → side ≡ turn_of (get_or cells turn_cell 0)
    → left_by s cells (other side) v ≡ 0
unfolding left_by
left_by-other s cells side v mover = rw (sym mover, is_others side) refl

pub fewer-none : (k : ℕ) (lists : List (List ℕ)) → k ≡ 0 → lists ≡ fewer k lists
fewer-none k lists none = sym (take_all (length lists - k) lists (omega arith))
