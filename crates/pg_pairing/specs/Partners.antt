-- The other point of each pair.
use Rattle.std.specs.Prelude.{◌≡◌, ◌≢◌, ◌⊎◌, ℕ, ◌+◌, ◌<◌, List, length, get_or}
use Rattle.pg_pairing.specs.Prelude.{Any, Contains, MAX_MEMBERS, Pair}

-- the pair is of these two points
abbrev pub IsPairOf : ℕ → ℕ → Pair → Type 0
IsPairOf v w s = ((s.a ≡ v) × (s.b ≡ w)) ⊎ ((s.a ≡ w) × (s.b ≡ v))

-- there is a number for each point that a set can hold, and it can hold each of them
pub record AreSmall (partners : List ℕ) : Type 0 where
  pub count : length partners ≡ MAX_MEMBERS
  pub small : (v : ℕ) → v < MAX_MEMBERS → get_or partners v 0 < MAX_MEMBERS

-- the number of each point is one more than the other point of its pair, or 0 where it is in none
pub record ArePartners (partners : List ℕ) (pairs : List Pair) : Type 0 where
  pub different : (s : Pair) → Contains pairs s → s.a ≢ s.b
  pub paired : (s : Pair)
      → Contains pairs s
      → (get_or partners s.a 0 ≡ s.b + 1) × (get_or partners s.b 0 ≡ s.a + 1)
  pub told : (v w : ℕ) → v < MAX_MEMBERS → get_or partners v 0 ≡ w + 1 → Any (IsPairOf v w) pairs
