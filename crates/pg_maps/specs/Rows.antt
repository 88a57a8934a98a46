-- Rows of points, and tables of what a map does.
use Rattle.std.specs.Prelude.{◌≡◌, ℕ, ◌<◌, List, map, length}
use Rattle.pg_maps.specs.Prelude.{Vec, All, range_with_len, IsStrictlyIncreasing, IsPermutation}
use Rattle.pg_maps.specs.Prelude.{IsSorted, slice_cmp, nat_cmp}
use Rattle.std.specs.declared.cmp.Ordering.{Ordering}
use Rattle.pg_maps.specs.Images.{AreInverse}

-- the points of the rows
abbrev pub points_of_rows : List (Vec ℕ) → List (List ℕ)
points_of_rows rows = map (λ row. row.items) rows

-- a line of points below n in ascending order
pub record IsRow (n : ℕ) (line : List ℕ) : Type 0 where
  pub up : IsStrictlyIncreasing line
  pub below : All (λ v. v < n) line

-- the table has f of each number below its length, and back undoes f there
pub record IsTableOf (f back : ℕ → ℕ) (table : List ℕ) : Type 0 where
  pub values : table ≡ map f (range_with_len 0 (length table))
  pub inverse : AreInverse (length table) f back

-- the order of rows
abbrev pub row_cmp : Vec ℕ → Vec ℕ → Ordering
row_cmp x y = slice_cmp nat_cmp x.items y.items

-- the rows are the lines, sorted
pub record AreSortedRows (lines : List (List ℕ)) (rows : List (Vec ℕ)) : Type 0 where
  pub same : IsPermutation lines (points_of_rows rows)
  pub sorted : IsSorted row_cmp rows
