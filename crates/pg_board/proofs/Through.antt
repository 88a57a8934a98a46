-- The lines through a point.
use Rattle.std.proofs.Common.{◌≡◌, ◌≢◌, ℕ, ◌+◌, ◌-◌, ◌<◌, ◌≤◌, Bool, true, false, List, length}
use Rattle.std.proofs.Common.{get_or, take, eqb, refl, sym, ap, ◌∙◌, arith, inl, inr}
use Rattle.pg_board.proofs.Common.{cases_Bool, eqb-true, eq-eqb, false≢true, Contains-get_or}
use Rattle.pg_board.proofs.Common.{take-take, length-take-le, filter, range_with_len, list_any}
use Rattle.pg_board.proofs.Common.{count_by, IsStrictlyIncreasing, Side, is_on, and_right, take_at}
use Rattle.pg_board.proofs.Common.{length_push, take-append-drop, filter-append, length-filter}
use Rattle.pg_board.proofs.Common.{one_if, X, Y, is_same_side, Cells, or_left, or_right, or_cases}
use Rattle.std.proofs.lemmas.List.Kept.{IsStrictlyIncreasing-filter}
use Rattle.pg_board.specs.Shape.{Shape, line_in, lines_through, lines_holding}
use Rattle.pg_board.specs.Counts.{count_in, is_clear}
use Rattle.pg_board.specs.Lines.{clear_in}
use Rattle.pg_board.proofs.Ranges.{filtered-below, filtered-passes, in_filtered, range-ascends}
use Rattle.pg_board.proofs.LineSteps.{clear_in-more}
use Rattle.std.proofs.Common.{◌++◌, [], ◌∷◌, zero, suc}
use Rattle.std.proofs.Common.{◌*◌, ◌&&◌, ne_eqb, drop, length-append}
use Rattle.pg_board.specs.Lines.{Claims}
use Rattle.pg_board.proofs.Ranges.{not_before}

pub through-ascends : (s : Shape) (v : ℕ) → IsStrictlyIncreasing (lines_through s v)
unfolding lines_through lines_holding
through-ascends s v = IsStrictlyIncreasing-filter (λ i. is_on v (line_in s i))
    (range_with_len 0 (length s.lines)) (range-ascends 0 (length s.lines))

pub through-below : (s : Shape) (v j : ℕ)
    → j < length (lines_through s v)
    → get_or (lines_through s v) j 0 < length s.lines
unfolding lines_through lines_holding
through-below s v j low = filtered-below (λ i. is_on v (line_in s i)) (length s.lines) _
    (Contains-get_or (filter (λ i. is_on v (line_in s i)) (range_with_len 0 (length s.lines))) j 0
    low)

pub through-on : (s : Shape) (v j : ℕ)
    → j < length (lines_through s v)
    → is_on v (line_in s (get_or (lines_through s v) j 0)) ≡ true
unfolding lines_through lines_holding
through-on s v j low = filtered-passes (λ i. is_on v (line_in s i)) (length s.lines) _
    (Contains-get_or (filter (λ i. is_on v (line_in s i)) (range_with_len 0 (length s.lines))) j 0
    low)

any-at : (i : ℕ) (xs : List ℕ) (k d : ℕ)
    → k < length xs
    → get_or xs k d ≡ i
    → list_any (λ q. eqb q i) xs ≡ true
any-at i [] k d low at = absurd (omega arith)
any-at i (x ∷ xs) zero d low at = or_left (eqb x i) _ (eq-eqb x i at)
any-at i (x ∷ xs) (suc k) d low at = or_right (eqb x i) _ (any-at i xs k d (omega arith) at)

any-passes : (p : ℕ → Bool) (i a n : ℕ)
    → list_any (λ q. eqb q i) (filter p (range_with_len a n)) ≡ true
    → p i ≡ true
any-passes p i a zero found = absurd (false≢true found)
any-passes p i a (suc n) found = elim (cases_Bool (p a)) [
  | inl on ↦ elim (or_cases (eqb a i)
      (list_any (λ q. eqb q i) (filter p (range_with_len (a + 1) n))) (rw on at found)) [
        | inl here ↦ ap p (sym (eqb-true a i here)) ∙ on
        | inr there ↦ any-passes p i (a + 1) n there
      ]
  | inr off ↦ any-passes p i (a + 1) n (rw off at found)
]

any-filter : (p : ℕ → Bool) (i a n : ℕ)
    → a ≤ i
    → i < a + n
    → list_any (λ q. eqb q i) (filter p (range_with_len a n)) ≡ p i
any-filter p i a n low high = elim (cases_Bool (p i)) [
  | inl on ↦
      (let inside = in_filtered p i a n low high on in any-at i _ inside.0 i inside.1 inside.2)
      ∙ sym on
  | inr off ↦ elim (cases_Bool (list_any (λ q. eqb q i) (filter p (range_with_len a n)))) [
    | inl found ↦ absurd (false≢true (sym off ∙ any-passes p i a n found))
    | inr none ↦ none ∙ sym off
  ]
]

-- the members of the list
pub through-any : (s : Shape) (v i : ℕ)
    → i < length s.lines
    → list_any (λ q. eqb q i) (lines_through s v) ≡ is_on v (line_in s i)
unfolding lines_through lines_holding
through-any s v i low =
    any-filter (λ k. is_on v (line_in s k)) i 0 (length s.lines) (omega arith) (omega arith)

-- ---- lines put back

-- one clear line is put back
pub put-back : (s : Shape) (cells : List ℕ) (side : Side) (xs : List ℕ) (j : ℕ)
    (all before after : List (List ℕ)) (last : List ℕ)
    → j < length xs
    → before ≡ take (length all - clear_in s cells side (take j xs)) all
    → before ≡ after ++ last ∷ []
    → count_in s cells side (get_or xs j 0) ≡ 0
    → after ≡ take (length all - clear_in s cells side (take (j + 1) xs)) all
put-back s cells side xs j all before after last low so_far step clear =
    let k = clear_in s cells side (take j xs) in
    let more : clear_in s cells side (take (j + 1) xs) ≡ k + 1 =
    clear_in-more s cells side xs j low ∙ ap (λ b. k + one_if b) (eq-eqb _ _ clear) in
    let many : length before ≡ length all - k =
    ap length so_far ∙ length-take-le (length all - k) all (omega arith) in
    let one : length before ≡ length after + 1 = ap length step ∙ length_push after last in
    sym (take_at after (last ∷ []) (length after) refl)
    ∙ (ap (take (length after)) (sym step ∙ so_far)
    ∙ (take-take (length after) (length all - k) all (omega arith)
    ∙ ap (λ n. take n all) (omega arith)))

pub put-none : (s : Shape) (cells : List ℕ) (side : Side) (xs : List ℕ) (j : ℕ)
    (all : List (List ℕ))
    → j < length xs
    → count_in s cells side (get_or xs j 0) ≢ 0
    → take (length all - clear_in s cells side (take j xs)) all
    ≡ take (length all - clear_in s cells side (take (j + 1) xs)) all
put-none s cells side xs j all low some =
    let more : clear_in s cells side (take (j + 1) xs) ≡ clear_in s cells side (take j xs) =
    clear_in-more s cells side xs j low
    ∙ (ap (λ b. clear_in s cells side (take j xs) + one_if b) (ne_eqb _ _ some) ∙ omega arith) in
    ap (λ n. take (length all - n) all) (sym more)

count-drop : (p : ℕ → Bool) (xs : List ℕ) (j : ℕ) → count_by p (take j xs) ≤ count_by p xs
count-drop p xs j =
    let parts = length-append (filter p (take j xs)) (filter p (drop j xs)) in
    let whole = ap length
    (sym (filter-append p (take j xs) (drop j xs)) ∙ ap (filter p) (take-append-drop j xs)) in
    omega (arith, length-filter p xs, length-filter p (take j xs))

-- there are enough lists for one more clear line
pub some-back : (s : Shape) (cells : List ℕ) (side : Side) (xs : List ℕ) (j : ℕ)
    (all before : List (List ℕ))
    → j < length xs
    → clear_in s cells side xs < length all
    → before ≡ take (length all - clear_in s cells side (take j xs)) all
    → count_in s cells side (get_or xs j 0) ≡ 0
    → 2 ≤ length before
unfolding clear_in
some-back s cells side xs j all before low many so_far clear =
    let k = clear_in s cells side (take j xs) in
    let more : clear_in s cells side (take (j + 1) xs) ≡ k + 1 =
    clear_in-more s cells side xs j low ∙ ap (λ b. k + one_if b) (eq-eqb _ _ clear) in
    let len : length before ≡ length all - k =
    ap length so_far ∙ length-take-le (length all - k) all (omega arith) in
    let within = count-drop (is_clear (count_in s cells) side) xs (j + 1) in
    omega arith

-- ---- what a further line needs

pub record Ready (s : Shape) (now : Cells) (x : ℕ) : Type 0 where
  pub range : x < length s.lines
  pub free : count_in s now.cells X x + count_in s now.cells Y x < length (line_in s x)
  pub room : 4 ≤ now.spare

pub ready : (s : Shape) (side : Side) (v j : ℕ) (t now : Cells) (a b : List (List ℕ))
    → Claims s side (take j (lines_through s v)) t now a b
    → j < length (lines_through s v)
    → ((i : ℕ) → i < length s.lines
    → is_on v (line_in s i) ≡ true
    → count_in s t.cells X i + count_in s t.cells Y i < length (line_in s i))
    → 4 * length (lines_through s v) ≤ t.spare
    → Ready s now (get_or (lines_through s v) j 0)
ready s side v j t now a b h low free room =
    let xs = lines_through s v in
    let x = get_or xs j 0 in
    let range = through-below s v j low in
    let first : list_any (λ q. eqb q x) (take j xs) ≡ false =
    not_before xs j (through-ascends s v) low in
    let none : (k : Side)
    → one_if (is_same_side k side && list_any (λ q. eqb q x) (take j xs)) ≡ 0 =
    λ k. ap one_if (and_right (is_same_side k side) _ first) in
    let one = h.claimed.counts X x range in
    let two = h.claimed.counts Y x range in
    let none_x = none X in
    let none_y = none Y in
    let before = free x range (through-on s v j low) in
    let taken = length-take-le j xs (omega arith) in
    record { range = range; free = omega arith; room = omega (arith, h.trail.spare, h.trail.bound) }
