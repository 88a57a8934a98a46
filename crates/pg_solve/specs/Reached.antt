-- How many positions can be reached.
use Rattle.std.specs.Prelude.{◌≡◌, ℕ, List, length, None, Some, slice_get}
use Rattle.pg_solve.specs.Prelude.{Contains, Score, decided, Game, Position, IsReachable}

-- so many different positions that can be reached from the game's, none of them decided
pub record AreReachable (g : Game) (t : Score) (count : ℕ)
    (positions : List Position) : Type 0 where
  pub many : length positions ≡ count
  pub different : (i k : ℕ) (p : Position)
      → slice_get positions i ≡ Some p
      → slice_get positions k ≡ Some p
      → i ≡ k
  pub reachable : (k : ℕ) (p : Position) → slice_get positions k ≡ Some p → IsReachable g p
  pub undecided : (k : ℕ) (p : Position) → slice_get positions k ≡ Some p → decided g t p ≡ None

-- every position that can be reached is in the list
abbrev pub HasAllReachable : Game → List Position → Type 0
HasAllReachable g all = (p : Position) → IsReachable g p → Contains all p
