-- Lines that lack one point.
use Rattle.std.proofs.Common.{◌≡◌, ℕ, ◌+◌, ◌<◌, ◌≤◌, Bool, true, false, not, ◌&&◌, ◌||◌, List, []}
use Rattle.std.proofs.Common.{◌∷◌, Some, None, length, get_or, drop, eqb, refl, sym, ap, ◌∙◌, arith}
use Rattle.std.proofs.Common.{inl, inr}
use Rattle.pg_board.proofs.Common.{cases_Bool, cases_eq, eq-eqb, ne_eqb, eqb-true, lt-ltb}
use Rattle.pg_board.proofs.Common.{and_parts, and_from, or_left, or_right, or_cases, false≢true}
use Rattle.pg_board.proofs.Common.{not-true, drop_more, count_by, find, list_any, list_all}
use Rattle.pg_board.proofs.Common.{IsStrictlyIncreasing, contains, one_if, Side, X, Y, Position}
use Rattle.pg_board.proofs.Common.{is_free, points_of, is_on, is_near}
use Rattle.pg_board.specs.Shape.{Shape}
use Rattle.pg_board.specs.Fits.{has_mark, position_of}
use Rattle.pg_board.specs.Near.{has_none}
use Rattle.pg_board.proofs.Ranges.{count-cons}
use Rattle.pg_board.proofs.Positions.{once}
use Rattle.pg_board.proofs.Decoding.{has-points}

-- ---- the first that passes

pub find-here : (t : ℕ → Bool) (xs : List ℕ) (j : ℕ)
    → j < length xs
    → t (get_or xs j 0) ≡ true
    → find t (drop j xs) ≡ Some (get_or xs j 0)
find-here t xs j low on = ap (find t) (drop_more xs j 0 low) ∙ rw on refl

pub find-later : (t : ℕ → Bool) (xs : List ℕ) (j : ℕ)
    → j < length xs
    → t (get_or xs j 0) ≡ false
    → find t (drop j xs) ≡ find t (drop (j + 1) xs)
find-later t xs j low off = ap (find t) (drop_more xs j 0 low) ∙ rw off refl

pub found-any : (t : ℕ → Bool) (xs : List ℕ) (v : ℕ)
    → find t xs ≡ Some v
    → (list_any (λ q. eqb q v) xs ≡ true) × (t v ≡ true)
found-any t [] v found = absurd (cc)
found-any t (x ∷ xs) v found = elim (cases_Bool (t x)) [
  | inl on ↦
      let same : Some x ≡ Some v = sym (rw on refl) ∙ found in
      let is : x ≡ v = cc in
      (or_left (eqb x v) _ (eq-eqb x v is), ap t (sym is) ∙ on)
  | inr off ↦
      let rest = found-any t xs v (sym (rw off refl) ∙ found) in
      (or_right (eqb x v) _ rest.0, rest.1)
]

pub none-any : (t : ℕ → Bool) (xs : List ℕ) (v : ℕ)
    → find t xs ≡ None
    → list_any (λ q. eqb q v) xs ≡ true
    → t v ≡ false
none-any t [] v none on = absurd (false≢true on)
none-any t (x ∷ xs) v none on = elim (cases_Bool (t x)) [
  | inl here ↦ absurd (let same : Some x ≡ None = sym (rw here refl) ∙ none in cc)
  | inr off ↦ elim (or_cases (eqb x v) (list_any (λ q. eqb q v) xs) on) [
    | inl e ↦ ap t (sym (eqb-true x v e)) ∙ off
    | inr there ↦ none-any t xs v (sym (rw off refl) ∙ none) there
  ]
]

pub unmarked-is : (s : Shape) (cells : List ℕ) (v : ℕ)
    → v < s.points
    → has_none cells v ≡ is_free (position_of s cells) v
unfolding has_none
unmarked-is s cells v low =
    let x : contains (position_of s cells).x v ≡ has_mark cells X v =
    has-points s cells X v ∙ ap (λ b. b && has_mark cells X v) (lt-ltb v s.points low) in
    let y : contains (position_of s cells).y v ≡ has_mark cells Y v =
    has-points s cells Y v ∙ ap (λ b. b && has_mark cells Y v) (lt-ltb v s.points low) in
    λ i. not (sym x i) && not (sym y i)

-- ---- counting what is covered

two-few : (a : ℕ → Bool) (u : ℕ) (xs : List ℕ)
    → a u ≡ false
    → count_by a xs + count_by (λ q. eqb q u) xs ≤ length xs
two-few a u [] off = omega arith
two-few a u (x ∷ xs) off =
    let rest = two-few a u xs off in
    let first_a = count-cons a x xs in
    let first_u = count-cons (λ q. eqb q u) x xs in
    elim (cases_eq x u) [
      | inl e ↦
          let none = ap one_if (ap a e ∙ off) in
          let one = ap one_if (eq-eqb x u e) in
          omega arith
      | inr ne ↦
          let none = ap one_if (ne_eqb x u ne) in
          let few = Rattle.pg_board.proofs.Ranges.one_if-few (a x) in
          omega arith
    ]

pub covered-count : (a : ℕ → Bool) (u : ℕ) (xs : List ℕ)
    → a u ≡ false
    → list_all (λ q. eqb q u || a q) xs ≡ true
    → count_by a xs + count_by (λ q. eqb q u) xs ≡ length xs
covered-count a u [] off all = refl
covered-count a u (x ∷ xs) off all =
    let parts = and_parts (eqb x u || a x) (list_all (λ q. eqb q u || a q) xs) all in
    let rest = covered-count a u xs off parts.1 in
    let first_a = count-cons a x xs in
    let first_u = count-cons (λ q. eqb q u) x xs in
    elim (cases_eq x u) [
      | inl e ↦
          let none = ap one_if (ap a e ∙ off) in
          let one = ap one_if (eq-eqb x u e) in
          omega arith
      | inr ne ↦
          let no = ne_eqb x u ne in
          let none = ap one_if no in
          let on : a x ≡ true = ap (λ b. b || a x) (sym no) ∙ parts.0 in
          let one = ap one_if on in
          omega arith
    ]

pub count-covered : (a : ℕ → Bool) (u : ℕ) (xs : List ℕ)
    → a u ≡ false
    → count_by a xs + count_by (λ q. eqb q u) xs ≡ length xs
    → list_all (λ q. eqb q u || a q) xs ≡ true
count-covered a u [] off all = refl
count-covered a u (x ∷ xs) off all =
    let few = two-few a u xs off in
    let first_a = count-cons a x xs in
    let first_u = count-cons (λ q. eqb q u) x xs in
    elim (cases_eq x u) [
      | inl e ↦
          let none = ap one_if (ap a e ∙ off) in
          let one = ap one_if (eq-eqb x u e) in
          and_from _ _ (or_left (eqb x u) (a x) (eq-eqb x u e))
          (count-covered a u xs off (omega arith))
      | inr ne ↦
          let none = ap one_if (ne_eqb x u ne) in
          elim (cases_Bool (a x)) [
            | inl on ↦
                let one = ap one_if on in
                and_from _ _ (or_right (eqb x u) (a x) on) (count-covered a u xs off (omega arith))
            | inr out ↦ let zero_is = ap one_if out in absurd (omega arith)
          ]
    ]

-- ---- near lines

free-off : (p : Position) (side : Side) (u : ℕ)
    → is_free p u ≡ true
    → contains (points_of p side) u ≡ false
free-off p X u free = not-true _ (and_parts _ _ free).0
free-off p Y u free = not-true _ (and_parts _ _ free).1

pub near-from : (p : Position) (side : Side) (line : List ℕ) (u : ℕ)
    → IsStrictlyIncreasing line
    → is_free p u ≡ true
    → is_on u line ≡ true
    → count_by (contains (points_of p side)) line + 1 ≡ length line
    → is_near p side line u ≡ true
near-from p side line u up free on count =
    let one = once u line up in
    let here = ap one_if on in
    and_from _ _ free
    (and_from _ _ on
    (count-covered (contains (points_of p side)) u line (free-off p side u free) (omega arith)))

pub near-count : (p : Position) (side : Side) (line : List ℕ) (u : ℕ)
    → IsStrictlyIncreasing line
    → is_near p side line u ≡ true
    → count_by (contains (points_of p side)) line + 1 ≡ length line
near-count p side line u up near =
    let parts = and_parts (is_free p u) _ near in
    let inner = and_parts (is_on u line) _ parts.1 in
    let all =
    covered-count (contains (points_of p side)) u line (free-off p side u parts.0) inner.1 in
    let one = once u line up in
    let here = ap one_if inner.0 in
    omega arith
