-- Sheets of several boards.
use Rattle.std.specs.Prelude.{ℕ, ◌+◌, ◌*◌, ◌-◌, ◌/◌, ◌%◌, max, min, List, [], map, Option, Some}
use Rattle.std.specs.Prelude.{None}
use Rattle.pg_draw.specs.Prelude.{Place, at, range_with_len}
use Rattle.pg_draw.specs.declared.measures.TheConstants.{MAX_BOARDS, MAX_COLUMNS}

-- how many boards a sheet has
abbrev pub boards_of : Option ℕ → ℕ
boards_of None = 1
boards_of (Some count) = max (min count MAX_BOARDS) 1

-- in how many columns they are
abbrev pub columns_for : ℕ → ℕ
columns_for boards = min boards MAX_COLUMNS

-- in how many rows
abbrev pub rows_for : ℕ → ℕ
rows_for boards = (boards + MAX_COLUMNS - 1) / MAX_COLUMNS

-- how far to the right and down the board of that number is, from 0
abbrev pub copy_place : ℕ → ℕ → ℕ → Place
copy_place width height i = at (width * (i % MAX_COLUMNS)) (height * (i / MAX_COLUMNS))

-- where the boards after the first are
abbrev pub copy_places : ℕ → ℕ → ℕ → List Place
copy_places width height boards =
    map (λ i. copy_place width height (i + 1)) (range_with_len 0 (boards - 1))
