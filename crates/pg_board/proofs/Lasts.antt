-- The one point that a line lacks.
use Rattle.std.proofs.Common.{◌≡◌, ◌≢◌, ℕ, suc, ◌+◌, ◌<◌, true, false, List, [], ◌∷◌, Option, Some}
use Rattle.std.proofs.Common.{None, length, eqb, sym, ◌∙◌, arith, inl, inr}
use Rattle.std.specs.Prelude.{IfSome, IfNone}
use Rattle.pg_board.proofs.Common.{cases_Bool, or_cases, eqb-true, and_parts, false≢true, find, All}
use Rattle.pg_board.proofs.Common.{Side, is_free, is_on, is_near}
use Rattle.pg_board.specs.Shape.{Shape, IsShape, line_in}
use Rattle.pg_board.specs.Fits.{position_of, held_in}
use Rattle.pg_board.specs.Near.{has_none}
use Rattle.pg_board.proofs.Nearness.{found-any, none-any, unmarked-is, near-from, near-count}

on-range : (n u : ℕ) (xs : List ℕ) → All (λ v. v < n) xs → is_on u xs ≡ true → u < n
on-range n u [] all on = absurd (false≢true on)
on-range n u (x ∷ xs) all on = elim (or_cases (eqb x u) (is_on u xs) on) [
  | inl here ↦ let e = eqb-true x u here in let low : x < n = all 0 0 (omega arith) in omega arith
  | inr there ↦ on-range n u xs (λ k d low. all (suc k) d (omega arith)) there
]

pub other-count : (s : Shape) (cells : List ℕ) (side : Side) (i : ℕ)
    → IsShape s
    → i < length s.lines
    → held_in s (position_of s cells) side i + 1 ≢ length (line_in s i)
    → (u : ℕ) → is_near (position_of s cells) side (line_in s i) u ≡ false
other-count s cells side i shape low apart u =
    elim (cases_Bool (is_near (position_of s cells) side (line_in s i) u)) [
      | inl near ↦ absurd (apart (near-count (position_of s cells) side (line_in s i) u
          (shape.lines i [] low).ascending near))
      | inr far ↦ far
    ]

pub last-found : (s : Shape) (cells : List ℕ) (side : Side) (i : ℕ) (o : Option ℕ)
    → IsShape s
    → i < length s.lines
    → o ≡ find (has_none cells) (line_in s i)
    → held_in s (position_of s cells) side i + 1 ≡ length (line_in s i)
    → IfSome o (λ v. is_near (position_of s cells) side (line_in s i) v ≡ true)
last-found s cells side i None shape low is count = tt
last-found s cells side i (Some v) shape low is count =
    let line = shape.lines i [] low in
    let found = found-any (has_none cells) (line_in s i) v (sym is) in
    let range = on-range s.points v (line_in s i) line.range found.0 in
    near-from (position_of s cells) side (line_in s i) v line.ascending
    (sym (unmarked-is s cells v range) ∙ found.1) found.0 count

pub last-none : (s : Shape) (cells : List ℕ) (side : Side) (i : ℕ) (o : Option ℕ)
    → IsShape s
    → i < length s.lines
    → o ≡ find (has_none cells) (line_in s i)
    → IfNone o ((u : ℕ) → is_near (position_of s cells) side (line_in s i) u ≡ false)
last-none s cells side i (Some v) shape low is = tt
last-none s cells side i None shape low is =
    λ u. elim (cases_Bool (is_near (position_of s cells) side (line_in s i) u)) [
      | inr far ↦ far
      | inl near ↦
          let line = shape.lines i [] low in
          let parts = and_parts (is_free (position_of s cells) u) _ near in
          let inner = and_parts (is_on u (line_in s i)) _ parts.1 in
          let range = on-range s.points u (line_in s i) line.range inner.0 in
          absurd (false≢true (sym (none-any (has_none cells) (line_in s i) u (sym is) inner.0)
          ∙ (unmarked-is s cells u range ∙ parts.0)))
    ]
