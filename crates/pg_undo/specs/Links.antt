-- How the arrays of a ring stand for its lists.
use Rattle.std.specs.Prelude.{◌≡◌, ℕ, zero, suc, ◌+◌, ◌<◌, ◌≤◌, Bool, true, false, ◌||◌, ◌==◌, List}
use Rattle.std.specs.Prelude.{[], ◌∷◌, ◌++◌, length, get_or, set}
use Rattle.std.specs.List.{range_with_len}
use Rattle.pg_base.specs.Sets.{minus}
use Rattle.pg_undo.specs.Ring.{without}

-- ---- the lists, by what was taken out, last first

-- what is left of the numbers below n
unfoldable pub remaining : ℕ → List ℕ → List ℕ
remaining n [] = range_with_len 0 n
remaining n (i ∷ out) = without i (remaining n out)

-- the same as a test
unfoldable pub is_left : List ℕ → ℕ → Bool
is_left [] = λ _. true
is_left (i ∷ out) = minus (is_left out) i

-- all lists, oldest first
unfoldable pub history : ℕ → List ℕ → List (List ℕ)
history n [] = remaining n [] ∷ []
history n (i ∷ out) = history n out ++ remaining n (i ∷ out) ∷ []

-- ---- what is linked: the start is place 0, the number k is place k + 1, and the end is place n +
-- 1

-- where the place's links stand: start and end share a slot
unfoldable pub slot : ℕ → ℕ → ℕ
slot n zero = n
slot n (suc k) = k

-- whether the place is linked
unfoldable pub stands : ℕ → (ℕ → Bool) → ℕ → Bool
stands n left zero = true
stands n left (suc k) = left k || (k == n)

-- the second place is the next one after the first
pub record Follows (n : ℕ) (left : ℕ → Bool) (i j : ℕ) : Type 0 where
  pub above : i < j
  pub within : j ≤ n + 1
  pub from : stands n left i ≡ true
  pub to : stands n left j ≡ true
  pub between : (k : ℕ) → i < k → k < j → stands n left k ≡ false

-- each place that stands is linked with the next one, both ways
pub record AreLinked (n : ℕ) (next previous : List ℕ) (left : ℕ → Bool) : Type 0 where
  pub next_count : length next ≡ n + 1
  pub previous_count : length previous ≡ n + 1
  pub forth : (i j : ℕ) → Follows n left i j → get_or next (slot n i) 0 ≡ slot n j
  pub back : (i j : ℕ) → Follows n left i j → get_or previous (slot n j) 0 ≡ slot n i

-- a number that was taken out, and keeps its old neighbours
pub record IsOut (n : ℕ) (next previous out : List ℕ) (i : ℕ) : Type 0 where
  pub low : i < n
  pub was_left : is_left out i ≡ true
  pub next_within : get_or next i 0 ≤ n
  pub previous_within : get_or previous i 0 ≤ n

-- What is left is linked, and so it was before each was taken out: linking the last one between its
-- old neighbours gives the arrays of then.
unfoldable pub AreLinks : ℕ → List ℕ → List ℕ → List ℕ → Type 0
AreLinks n next previous [] = AreLinked n next previous (is_left [])
AreLinks n next previous (i ∷ out) =
    AreLinked n next previous (is_left (i ∷ out)) × IsOut n next previous out i
    × AreLinks n (set next (get_or previous i 0) i) (set previous (get_or next i 0) i) out
