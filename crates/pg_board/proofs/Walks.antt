-- A walk over the lines without a point of the other side, in search of one that lacks one point.
use Rattle.std.proofs.Common.{◌≡◌, ℕ, zero, suc, ◌+◌, ◌<◌, ◌≤◌, Bool, true, false, not, ◌&&◌, ◌||◌}
use Rattle.std.proofs.Common.{List, [], ◌∷◌, Option, Some, None, length, eqb, ltb, refl, sym, ap}
use Rattle.std.proofs.Common.{◌∙◌, arith, inl, inr}
use Rattle.pg_board.proofs.Common.{cases_Bool, cases_eq, eqb-true, and_parts, and_right, and_cases}
use Rattle.pg_board.proofs.Common.{or_cases, false≢true, not-false, ltb-true, find, range_with_len}
use Rattle.pg_board.proofs.Common.{list_any, list_all, Contains, contains, ShareNone, Side, X, Y}
use Rattle.pg_board.proofs.Common.{other, Position, is_free, points_of, lines_of, is_touched}
use Rattle.pg_board.proofs.Common.{is_near, is_on, free-of, Game}
use Rattle.pg_game.proofs.Lowest.{find_both}
use Rattle.pg_board.specs.Shape.{Shape}
use Rattle.pg_board.specs.Board.{line_at, live_lines}
use Rattle.pg_board.specs.Fits.{position_of}
use Rattle.pg_board.specs.Near.{WalksNear, place_of}
use Rattle.pg_board.proofs.Ranges.{in_filtered}
use Rattle.pg_board.proofs.Decoding.{has-points, one_mark}

pub disjoint-is : (s : Shape) (cells : List ℕ)
    → ShareNone (position_of s cells).x (position_of s cells).y
disjoint-is s cells = λ v on. has-points s cells Y v
    ∙ and_right _ _ (one_mark cells v (and_parts _ _ (sym (has-points s cells X v) ∙ on)).1)

-- ---- the first in a range

range-found : (t : ℕ → Bool) (a n i : ℕ)
    → find t (range_with_len a n) ≡ Some i
    → (i < a + n) × (t i ≡ true) × ((j : ℕ) → a ≤ j → j < i → t j ≡ false)
range-found t a zero i found = absurd (cc)
range-found t a (suc n) i found = elim (cases_Bool (t a)) [
  | inl on ↦
      let same : Some a ≡ Some i = sym (rw on refl) ∙ found in
      let is : a ≡ i = cc in
      (omega arith, ap t (sym is) ∙ on, λ j low high. absurd (omega arith))
  | inr off ↦
      let rest = range-found t (a + 1) n i (sym (rw off refl) ∙ found) in
      let high : i < (a + 1) + n = rest.0 in (
        omega arith,
        rest.1,
        λ j low under. elim (cases_eq j a) [
          | inl e ↦ ap t e ∙ off
          | inr ne ↦ rest.2 j (omega arith) under
        ],
      )
]

range-none : (t : ℕ → Bool) (a n : ℕ)
    → find t (range_with_len a n) ≡ None
    → (j : ℕ) → a ≤ j
    → j < a + n
    → t j ≡ false
range-none t a zero none j low high = absurd (omega arith)
range-none t a (suc n) none j low high = elim (cases_Bool (t a)) [
  | inl on ↦ absurd (let same : Some a ≡ None = sym (rw on refl) ∙ none in cc)
  | inr off ↦ elim (cases_eq j a) [
    | inl e ↦ ap t e ∙ off
    | inr ne ↦ range-none t (a + 1) n (sym (rw off refl) ∙ none) j (omega arith) (omega arith)
  ]
]

-- ---- lines with a point of the other side

both-at : (a b : ℕ → Bool) (xs : List ℕ)
    → list_any a xs ≡ true
    → list_all b xs ≡ true
    → (q : ℕ) × (a q ≡ true) × (b q ≡ true)
both-at a b [] any all = absurd (false≢true any)
both-at a b (x ∷ xs) any all =
    let parts = and_parts (b x) (list_all b xs) all in
    elim (or_cases (a x) (list_any a xs) any) [
      | inl here ↦ (x, here, parts.0)
      | inr there ↦ both-at a b xs there parts.1
    ]

apart-sides : (p : Position) (side : Side) (q : ℕ)
    → ShareNone p.x p.y
    → contains (points_of p (other side)) q ≡ true
    → contains (points_of p side) q ≡ true
    → ⊥
apart-sides p X q disjoint theirs own = false≢true (sym (disjoint q own) ∙ theirs)
apart-sides p Y q disjoint theirs own = false≢true (sym (disjoint q theirs) ∙ own)

touched-far : (p : Position) (side : Side) (line : List ℕ) (u : ℕ)
    → ShareNone p.x p.y
    → is_touched (points_of p (other side)) line ≡ true
    → is_near p side line u ≡ false
touched-far p side line u disjoint touched = elim (cases_Bool (is_near p side line u)) [
  | inr off ↦ off
  | inl near ↦
      let parts = and_parts (is_free p u) _ near in
      let inner = and_parts (is_on u line) _ parts.1 in
      let at = both-at (contains (points_of p (other side)))
      (λ q. eqb q u || contains (points_of p side) q) line touched inner.1 in
      absurd (elim (or_cases (eqb at.0 u) (contains (points_of p side) at.0) at.2) [
        | inl e ↦ false≢true (sym (free-of p (other side) u parts.0)
            ∙ (ap (contains (points_of p (other side))) (sym (eqb-true at.0 u e)) ∙ at.1))
        | inr own ↦ apart-sides p side at.0 disjoint at.1 own
      ])
]

-- ---- the walk

by_test : (g : Game) (p : Position) (side : Side) (t : ℕ → Bool) (j u : ℕ)
    → ShareNone p.x p.y
    → ((u : ℕ) → t j ≡ false → is_near p side (line_at g j) u ≡ false)
    → (not (is_touched (points_of p (other side)) (line_at g j)) && t j) ≡ false
    → is_near p side (line_at g j) u ≡ false
by_test g p side t j u disjoint known off =
    elim (and_cases (not (is_touched (points_of p (other side)) (line_at g j))) (t j) off) [
      | inl dead ↦ touched-far p side (line_at g j) u disjoint (not-false _ dead)
      | inr early ↦ known u early
    ]

pub walked : (g : Game) (p : Position) (side : Side) (t : ℕ → Bool) (o : Option ℕ)
    → ShareNone p.x p.y
    → o ≡ find t (live_lines g p (other side))
    → ((j u : ℕ) → j < length (lines_of g) → t j ≡ false → is_near p side (line_at g j) u ≡ false)
    → WalksNear g p side o
unfolding live_lines
walked g p side t None disjoint is known =
    let none = sym (find_both t (λ i. not (is_touched (points_of p (other side)) (line_at g i)))
    (range_with_len 0 (length (lines_of g))))
    ∙ sym is in
    record {
      disjoint = disjoint;
      live = tt;
      none = λ j u low. by_test g p side t j u disjoint (λ w early. known j w low early)
          (range-none (λ i. not (is_touched (points_of p (other side)) (line_at g i)) && t i) 0
          (length (lines_of g)) none j (omega arith) (omega arith));
    }
walked g p side t (Some i) disjoint is known =
    let live : ℕ → Bool = λ k. not (is_touched (points_of p (other side)) (line_at g k)) in
    let found = range-found (λ k. live k && t k) 0 (length (lines_of g)) i
    (sym (find_both t live (range_with_len 0 (length (lines_of g)))) ∙ sym is) in
    let low : i < 0 + length (lines_of g) = found.0 in
    record {
      disjoint = disjoint;
      live = in_filtered live i 0 (length (lines_of g)) (omega arith) low
          (and_parts (live i) (t i) found.1).0;
      none = λ j u under. by_test g p side t j u disjoint (λ w early. known j w (omega arith) early)
          (found.2 j (omega arith) under);
    }

-- the next line is beyond the one before
pub beyond : (g : Game) (p : Position) (e : Side) (line : ℕ) (o : Option ℕ)
    → o ≡ find (ltb line) (live_lines g p e)
    → line < length (lines_of g)
    → line < place_of (length (lines_of g)) o
unfolding live_lines
beyond g p e line None is low = low
beyond g p e line (Some i) is low =
    let live : ℕ → Bool = λ k. not (is_touched (points_of p e) (line_at g k)) in
    let found = range-found (λ k. live k && ltb line k) 0 (length (lines_of g)) i
    (sym (find_both (ltb line) live (range_with_len 0 (length (lines_of g)))) ∙ sym is) in
    ltb-true line i (and_parts (live i) (ltb line i) found.1).1

pub live-below : (g : Game) (p : Position) (e : Side) (i : ℕ)
    → Contains (live_lines g p e) i
    → i < length (lines_of g)
unfolding live_lines
live-below g p e i inside = Rattle.pg_board.proofs.Ranges.filtered-below
    (λ k. not (is_touched (points_of p e) (line_at g k))) (length (lines_of g)) i inside
