-- The eight maps of a board of square cells: whether rows and columns are exchanged first, and
-- whether the rows and the columns then stand in reverse order.
use Rattle.std.specs.Prelude.{◌≡◌, ℕ, ◌+◌, ◌*◌, ◌-◌, ◌/◌, ◌%◌, Bool, true, false, ◌==◌, nat_lt}
use Rattle.std.specs.Prelude.{nat_le, if◌then◌else◌}
use Rattle.pg_maps.specs.Prelude.{Grid, differ}
use Rattle.pg_maps.specs.declared.grid_map.GridMap.{GridMap}

-- the map of a number from 0 to 7
abbrev pub numbered : ℕ → GridMap
numbered m = record { exchange = nat_le 4 m; rows = m / 2 % 2 == 1; columns = m % 2 == 1 }

-- the number of a map: 4 for the exchange, 2 for the rows, 1 for the columns
abbrev pub number_of : GridMap → ℕ
number_of m =
    (if m.exchange then 4 else 0) + (if m.rows then 2 else 0) + (if m.columns then 1 else 0)

-- the map that leaves every cell
abbrev pub identity : GridMap
identity = record { exchange = false; rows = false; columns = false }

-- an exchange of rows and columns needs as many of both
abbrev pub IsMapOf : Grid → GridMap → Type 0
IsMapOf grid m = m.exchange ≡ true → grid.width ≡ grid.height

-- the place among n, counted from the other end where the order is reversed
abbrev pub turned : Bool → ℕ → ℕ → ℕ
turned on n k = if on then n - 1 - k else k

-- the row and the column to which the cell of that row and column goes
abbrev pub image_row : GridMap → Grid → ℕ → ℕ → ℕ
image_row m grid row column = turned m.rows grid.height (if m.exchange then column else row)

abbrev pub image_column : GridMap → Grid → ℕ → ℕ → ℕ
image_column m grid row column = turned m.columns grid.width (if m.exchange then row else column)

-- the point to which a point goes; what is no cell stays
unfoldable pub image_of : GridMap → Grid → ℕ → ℕ
image_of m grid v = if nat_lt v (grid.width * grid.height)
    then image_row m grid (v / grid.width) (v % grid.width) * grid.width
    + image_column m grid (v / grid.width) (v % grid.width)
    else v

-- the first map and then the second
abbrev pub followed_by : GridMap → GridMap → GridMap
followed_by a b = record {
  exchange = differ a.exchange b.exchange;
  rows = differ b.rows (if b.exchange then a.columns else a.rows);
  columns = differ b.columns (if b.exchange then a.rows else a.columns);
}

-- the map that undoes a map
abbrev pub reverse_of : GridMap → GridMap
reverse_of m = record {
  exchange = m.exchange;
  rows = if m.exchange then m.columns else m.rows;
  columns = if m.exchange then m.rows else m.columns;
}
