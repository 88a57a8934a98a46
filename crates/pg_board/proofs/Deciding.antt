-- Whether a potential decides, and whether the game is over, by counts.
use Rattle.std.proofs.Common.{◌≡◌, ℕ, zero, suc, ◌+◌, ◌-◌, ◌*◌, ◌^◌, ◌<◌, ◌≤◌, Bool, true, false}
use Rattle.std.proofs.Common.{not, ◌&&◌, List, [], ◌∷◌, Option, length, get_or, eqb, nat_lt}
use Rattle.std.proofs.Common.{if◌then◌else◌, refl, sym, ap, ◌∙◌, arith, inl, inr}
use Rattle.std.specs.Prelude.{slice_get}
use Rattle.pg_board.proofs.Common.{cases_Bool, ne_eqb, le-ltb, lt-ltb, and_right, false≢true}
use Rattle.pg_board.proofs.Common.{count_by, filter, range_with_len, list_all, list_any, contains}
use Rattle.pg_board.proofs.Common.{ShareNone, one_if, Side, X, Y, other, Position, is_free}
use Rattle.pg_board.proofs.Common.{points_of, is_touched, is_filled, is_empty, is_same_side}
use Rattle.pg_board.proofs.Common.{x_takes_last}
use Rattle.std.specs.Option.{is_some}
use Rattle.pg_board.specs.Shape.{Shape, turn_cell, line_in}
use Rattle.pg_board.specs.Fits.{Rules, position_of, turn_of, left_of, live_lines_in, free_points_in}
use Rattle.pg_board.specs.Board.{is_live_with}
use Rattle.pg_board.specs.Totals.{live_with_in, total_in, greatest_in, times_in, potential_in}
use Rattle.pg_board.specs.Totals.{risk_in, avoider_in, Agree}
use Rattle.pg_board.proofs.CellPlaces.{mark-within}
use Rattle.pg_board.proofs.Ranges.{count-cons}
use Rattle.pg_board.proofs.Walks.{disjoint-is}
use Rattle.pg_board.proofs.Digits.{count-first}

-- ---- the turn

pub some-cell : (s : Shape) (cells : List ℕ) → Agree s cells → 1 ≤ length cells
some-cell s cells agree =
    let start = mark-within s 0 (omega arith) in
    omega (arith, agree.counted.width, start)

pub turn-is : (s : Shape) (cells : List ℕ)
    → turn_of (get_or cells turn_cell 0) ≡ (position_of s cells).turn
unfolding position_of
turn-is s cells = refl

pub left-is : (s : Shape) (cells : List ℕ)
    → left_of (get_or cells turn_cell 0) ≡ (position_of s cells).left
unfolding position_of
left-is s cells = refl

pub left-few : (cell bias : ℕ) → 1 ≤ bias → cell ≤ bias → left_of cell ≤ bias
unfolding left_of
left-few zero bias some few = some
left-few (suc k) bias some few = few

pub times-own : (r : Rules) (p : Position) (side : Side) (n : ℕ)
    → is_same_side side p.turn ≡ true
    → n ≡ r.bias - p.left
    → n ≡ times_in r p side
times-own r p side n own is =
    is ∙ sym (ap (λ (b : Bool). if b then r.bias - p.left else r.bias) own)

pub times-theirs : (r : Rules) (p : Position) (side : Side) (n : ℕ)
    → is_same_side side p.turn ≡ false
    → n ≡ r.bias
    → n ≡ times_in r p side
times-theirs r p side n theirs is =
    is ∙ sym (ap (λ (b : Bool). if b then r.bias - p.left else r.bias) theirs)

-- ---- the potential

module _ (r : Rules) (p : Position) (side : Side) (base limit total : ℕ)
    (base_is : base ≡ 1 + r.bias) (limit_is : limit ≡ base ^ r.shape.longest)
    (total_is : total ≡ total_in base r.shape p side) where
  same_limit : limit ≡ (1 + r.bias) ^ r.shape.longest
  same_limit = limit_is ∙ ap (λ n. n ^ r.shape.longest) base_is

  same_total : total ≡ total_in (1 + r.bias) r.shape p side
  same_total = total_is ∙ ap (λ n. total_in n r.shape p side) base_is

  pub too-great : limit ≤ total → false ≡ potential_in r p side
  unfolding potential_in
  too-great over = sym (le-ltb _ _ (omega (arith, same_limit, same_total, over)))

  pub none-counted : total < limit → times_in r p side ≡ 0 → true ≡ potential_in r p side
  unfolding potential_in
  none-counted under none =
      let product = ap (λ n. n * greatest_in (1 + r.bias) r.shape p side) none in
      sym (lt-ltb _ _ (omega (arith, same_limit, same_total, under, product)))

  pub whole : (times most : ℕ)
      → times ≡ times_in r p side
      → most ≡ greatest_in base r.shape p side
      → nat_lt (total + times * most) limit ≡ potential_in r p side
  unfolding potential_in
  whole times most times_is most_is =
      let same_most = most_is ∙ ap (λ n. greatest_in n r.shape p side) base_is in
      λ i. nat_lt (same_total i + times_is i * same_most i) (same_limit i)

-- ---- Avoider's potential

pub avoider-great : (r : Rules) (p : Position) (limit total : ℕ)
    → limit ≡ 2 ^ r.shape.longest
    → total ≡ total_in 2 r.shape p Y
    → limit ≤ total
    → false ≡ avoider_in r p
unfolding avoider_in
avoider-great r p limit total limit_is total_is over =
    elim (cases_Bool (x_takes_last r.bias p.turn p.left (length (free_points_in r.shape p)))) [
      | inl last ↦ rw last (sym (le-ltb _ _ (omega (arith, limit_is, total_is, over))))
      | inr other_last ↦ rw other_last (sym (le-ltb _ _ (omega (arith, limit_is, total_is, over))))
    ]

pub avoider-whole : (r : Rules) (p : Position) (limit risk : ℕ)
    → limit ≡ 2 ^ r.shape.longest
    → risk ≡ risk_in r p
    → nat_lt risk limit ≡ avoider_in r p
unfolding avoider_in
avoider-whole r p limit risk limit_is risk_is = λ i. nat_lt (risk_is i) (limit_is i)

pub risk-twice : (r : Rules) (p : Position) (total : ℕ)
    → total ≡ total_in 2 r.shape p Y
    → x_takes_last r.bias p.turn p.left (length (free_points_in r.shape p)) ≡ true
    → 2 * total ≡ risk_in r p
risk-twice r p total is last = ap (λ n. 2 * n) is
    ∙ sym (ap (λ (b : Bool). if b then 2 * total_in 2 r.shape p Y else total_in 2 r.shape p Y) last)

pub risk-once : (r : Rules) (p : Position) (total : ℕ)
    → total ≡ total_in 2 r.shape p Y
    → x_takes_last r.bias p.turn p.left (length (free_points_in r.shape p)) ≡ false
    → total ≡ risk_in r p
risk-once r p total is last = is
    ∙ sym (ap (λ (b : Bool). if b then 2 * total_in 2 r.shape p Y else total_in 2 r.shape p Y) last)

-- ---- filled lines

-- all are a's where none is b's and none is left
covered : (a b t : ℕ → Bool)
    → ((q : ℕ) → a q ≡ true → b q ≡ false)
    → ((q : ℕ) → t q ≡ (not (a q) && not (b q)))
    → (line : List ℕ) → list_all a line ≡ (not (list_any b line) && eqb (count_by t line) 0)
covered a b t apart rest [] = refl
covered a b t apart rest (v ∷ line) =
    let tail = covered a b t apart rest line in
    let first = count-cons t v line in
    elim (cases_Bool (a v)) [
      | inl on ↦
          let off = apart v on in
          let taken : t v ≡ false = rest v ∙ rw on refl in
          let none = ap one_if taken in
          let same : count_by t (v ∷ line) ≡ count_by t line = omega (arith, first, none) in
          rw (on, off, same) tail
      | inr out ↦ elim (cases_Bool (b v)) [
        | inl theirs ↦ rw (out, theirs) refl
        | inr clear ↦
            let left : t v ≡ true = rest v ∙ rw (out, clear) refl in
            let one = ap one_if left in
            let some : eqb (count_by t (v ∷ line)) 0 ≡ false =
            ne_eqb _ _ (λ e. omega (arith, first, one, e)) in
            rw (out, some) (sym (and_right _ _ refl))
      ]
    ]

pub filled-live : (p : Position) (side : Side)
    → ShareNone p.x p.y
    → (line : List ℕ) → is_filled (points_of p side) line ≡ is_live_with p (other side) 0 line
filled-live p X apart line =
    covered (contains p.x) (contains p.y) (is_free p) apart (λ q. refl) line
filled-live p Y apart line = covered (contains p.y) (contains p.x) (is_free p) back turned line
  where
    back : (q : ℕ) → contains p.y q ≡ true → contains p.x q ≡ false
    back q on = elim (cases_Bool (contains p.x q)) [
      | inl both ↦ absurd (false≢true (sym (apart q both) ∙ on))
      | inr off ↦ off
    ]

    swap_and : (a b : Bool) → (a && b) ≡ (b && a)
    swap_and true true = refl
    swap_and true false = refl
    swap_and false true = refl
    swap_and false false = refl

    turned : (q : ℕ) → is_free p q ≡ (not (contains p.y q) && not (contains p.x q))
    turned q = swap_and (not (contains p.x q)) (not (contains p.y q))

some-any : {A : Type 0} (f : A → Bool) (xs : List A) → not (eqb (count_by f xs) 0) ≡ list_any f xs
some-any f [] = refl
some-any f (x ∷ xs) =
    let first = count-first f x xs in
    elim (cases_Bool (f x)) [
      | inl on ↦
          let one = ap one_if on in
          let some : eqb (count_by f (x ∷ xs)) 0 ≡ false =
          ne_eqb _ _ (λ e. omega (arith, first, one, e)) in
          rw (some, on) refl
      | inr off ↦
          let none = ap one_if off in
          let same : count_by f (x ∷ xs) ≡ count_by f xs = omega (arith, first, none) in
          rw (same, off) (some-any f xs)
    ]

pub filled-is : (s : Shape) (cells : List ℕ) (side : Side) (n : ℕ)
    → n ≡ live_with_in s (position_of s cells) (other side) 0
    → not (eqb n 0) ≡ list_any (is_filled (points_of (position_of s cells) side)) s.lines
unfolding live_with_in
filled-is s cells side n is =
    let p = position_of s cells in
    let same : is_live_with p (other side) 0 ≡ is_filled (points_of p side) =
    (λ i line. sym (filled-live p side (disjoint-is s cells) line) i) in
    ap (λ k. not (eqb k 0)) is
    ∙ (some-any (is_live_with p (other side) 0) s.lines
    ∙ ap (λ (f : List ℕ → Bool). list_any f s.lines) same)

-- ---- the end of a walk

-- there is no first one where there is none
pub none-first : (o : Option ℕ) (xs : List ℕ) (none : Bool)
    → is_some o ≡ not none
    → o ≡ slice_get xs 0
    → none ≡ is_empty xs
none-first o [] true is first = refl
none-first o [] false is first = absurd (false≢true (sym (ap is_some first) ∙ is))
none-first o (x ∷ xs) true is first = absurd (false≢true (sym is ∙ ap is_some first))
none-first o (x ∷ xs) false is first = refl

empty-all : (h : ℕ → Bool) (f : List ℕ → Bool) (a : ℕ) (lines : List (List ℕ))
    → ((i : ℕ) → i < length lines → h (a + i) ≡ f (get_or lines i []))
    → is_empty (filter (λ i. not (h i)) (range_with_len a (length lines))) ≡ list_all f lines
empty-all h f a [] each = refl
empty-all h f a (line ∷ lines) each =
    let first : h a ≡ f line =
    (let at : a + 0 ≡ a = omega arith in ap h (sym at) ∙ each 0 (omega arith)) in
    let rest = empty-all h f (a + 1) lines (λ i low.
    (let at : (a + 1) + i ≡ a + suc i = omega arith in ap h at ∙ each (suc i) (omega arith))) in
    elim (cases_Bool (f line)) [
      | inl on ↦ let here = first ∙ on in rw (here, on) rest
      | inr off ↦ let here = first ∙ off in rw (here, off) refl
    ]

pub touched-is : (s : Shape) (p : Position)
    → is_empty (live_lines_in s p Y) ≡ list_all (is_touched p.y) s.lines
unfolding live_lines_in
touched-is s p = empty-all (λ i. is_touched p.y (line_in s i)) (is_touched p.y) 0 s.lines
    (λ i low. (let at : 0 + i ≡ i = omega arith in ap (λ k. is_touched p.y (line_in s k)) at))
