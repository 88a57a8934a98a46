-- Lines that a set fills but for one point.
use Rattle.std.specs.Prelude.{◌≡◌, ℕ, Bool, true, false, ◌||◌, ◌==◌, List, Option, Some, None}
use Rattle.pg_check.specs.Prelude.{list_all, FinSet, contains, nat_cmp, is_on}

-- whether the set has each point of the line but perhaps u
abbrev pub filled_but : FinSet nat_cmp → ℕ → List ℕ → Bool
filled_but s u line = list_all (λ q. q == u || contains s q) line

-- what of the line has been seen: each point is in the set, or the one that was found is the only
-- one that isn't
abbrev pub IsLackedSoFar : FinSet nat_cmp → List ℕ → Option ℕ → Type 0
IsLackedSoFar s seen None = list_all (contains s) seen ≡ true
IsLackedSoFar s seen (Some u) =
    (is_on u seen ≡ true) × (contains s u ≡ false) × (filled_but s u seen ≡ true)
