-- The lines through each point, gathered line by line.
use Rattle.std.specs.Prelude.{◌≡◌, ℕ, ◌<◌, Bool, List, [], length, get_or}
use Rattle.pg_board.specs.Prelude.{filter, range_with_len, is_on}

-- whether the line of that number holds the point
abbrev pub holds : List (List ℕ) → ℕ → ℕ → Bool
holds lines v k = is_on v (get_or lines k [])

-- the row of each point has those of the first lines that hold it, ascending
pub record AreGathered (lines : List (List ℕ)) (first : ℕ) (rows : List (List ℕ)) : Type 0 where
  pub gathered : (v : ℕ)
      → v < length rows
      → get_or rows v [] ≡ filter (holds lines v) (range_with_len 0 first)
