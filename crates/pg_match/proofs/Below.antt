-- The points of private pairs are points of lines.
use Rattle.std.proofs.Common.{◌≡◌, ℕ, ◌<◌, List, [], ◌∷◌, length, ap, inl, inr, arith}
use Rattle.pg_match.proofs.Common.{cases_lt, get_or_past, All-contains, All-cons, All-nil, All}
use Rattle.pg_match.proofs.Common.{AllZip, Contains, FinSet, nat_cmp, Pair}
use Rattle.pg_match.specs.Private.{line_at, IsPairOf, Answer, FoundPairs, FoundShort, IsAnswer}
use Rattle.pg_match.specs.Private.{HasPointsBelow}

point-below : (lines : List (List ℕ)) (j v : ℕ)
    → All (All (λ u. u < 1024)) lines
    → Contains (line_at lines j) v
    → v < 1024
point-below lines j v points c = elim (cases_lt j (length lines)) [
  | inl within ↦ All-contains (λ u. u < 1024) (line_at lines j) v (points j [] within) c
  | inr beyond ↦
      let none : length (line_at lines j) ≡ 0 = ap length (get_or_past lines j [] beyond) in
      absurd (omega (arith, none, c.1))
]

pairs-below : (lines : List (List ℕ)) (free : FinSet nat_cmp) (wanted : List ℕ) (pairs : List Pair)
    → All (All (λ u. u < 1024)) lines
    → AllZip (λ j s. IsPairOf (line_at lines j) free s) wanted pairs
    → All (λ s. (s.a < 1024) × (s.b < 1024)) pairs
pairs-below lines free [] [] points zip = All-nil (λ (s : Pair). (s.a < 1024) × (s.b < 1024))
pairs-below lines free [] (s ∷ pairs) points zip = elim zip [ ]
pairs-below lines free (j ∷ wanted) [] points zip = elim zip [ ]
pairs-below lines free (j ∷ wanted) (s ∷ pairs) points zip =
    All-cons (λ t. (t.a < 1024) × (t.b < 1024)) s pairs (
      point-below lines j s.a points zip.0.first,
      point-below lines j s.b points zip.0.second,
    ) (pairs-below lines free wanted pairs points zip.1)

pub points-below : (lines : List (List ℕ)) (wanted : List ℕ) (free : FinSet nat_cmp)
    (answer : Answer)
    → All (All (λ v. v < 1024)) lines
    → IsAnswer lines wanted free answer
    → HasPointsBelow answer
points-below lines wanted free (FoundPairs pairs) points h =
    pairs-below lines free wanted pairs points h.owned
points-below lines wanted free (FoundShort family) points h = tt
