-- Lines that are given by rows of points.
use Rattle.std.specs.Prelude.{ℕ, List}
use Rattle.std.specs.List.Sorted.{IsPermutation, IsStrictlyIncreasing}

-- the line has the points of the row, in ascending order
pub record IsLineOfRow (row line : List ℕ) : Type 0 where
  pub points : IsPermutation row line
  pub ascending : IsStrictlyIncreasing line
