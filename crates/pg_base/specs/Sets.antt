-- Sets of numbers as tests: one member more or less, both, either, outside, and how many there are
-- below a number.
use Rattle.std.specs.Prelude.{◌≡◌, ℕ, ◌+◌, Bool, true, false, not, ◌&&◌, ◌||◌, ◌==◌, ◌<◌, zero, suc}
use Rattle.std.specs.Prelude.{nat_lt, List, slice_get, Some}

-- the set with one more member
unfoldable pub plus : (ℕ → Bool) → ℕ → ℕ → Bool
plus a x z = a z || (x == z)

-- the set without one member
unfoldable pub minus : (ℕ → Bool) → ℕ → ℕ → Bool
minus a y z = a z && not (y == z)

-- what is in both
unfoldable pub both : (ℕ → Bool) → (ℕ → Bool) → ℕ → Bool
both a b z = a z && b z

-- what is in one or both
unfoldable pub either : (ℕ → Bool) → (ℕ → Bool) → ℕ → Bool
either a b z = a z || b z

-- what is in the first and not in the second
unfoldable pub outside : (ℕ → Bool) → (ℕ → Bool) → ℕ → Bool
outside a b z = a z && not (b z)

-- each member of the first is in the second
abbrev pub IsWithin : (ℕ → Bool) → (ℕ → Bool) → Type 0
IsWithin a b = (z : ℕ) → a z ≡ true → b z ≡ true

abbrev pub IsBelow : (ℕ → Bool) → ℕ → Type 0
IsBelow a n = (z : ℕ) → a z ≡ true → z < n

-- the number is marked in a table of marks
abbrev pub IsMarked : List Bool → ℕ → Type 0
IsMarked marks k = slice_get marks k ≡ Some true

-- 1 where the test holds, and 0 where it doesn't
abbrev pub one_if : Bool → ℕ
one_if true = 1
one_if false = 0

-- how many numbers below n are in the set
unfoldable pub count : (ℕ → Bool) → ℕ → ℕ
count a zero = 0
count a (suc n) = one_if (a n) + count a n

-- the first set without the members of the second that are below n
unfoldable pub cut_below : (ℕ → Bool) → (ℕ → Bool) → ℕ → ℕ → Bool
cut_below a d n z = a z && not (nat_lt z n && d z)

-- the members that are below n
unfoldable pub below : (ℕ → Bool) → ℕ → ℕ → Bool
below a n z = a z && nat_lt z n
