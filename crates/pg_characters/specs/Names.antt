-- The names of columns, cells and points, and numbers three characters wide.
use Rattle.std.specs.Prelude.{ℕ, ◌+◌, ◌-◌, ◌/◌, ◌%◌, ◌++◌, nat_lt, nat_le, if◌then◌else◌, []}
use Rattle.std.specs.Prelude.{◌∷◌, codes, decimal, Option, Some, None}
use Rattle.pg_base.specs.Texts.{Bytes}
use Rattle.pg_base.specs.declared.grid.Grid.{Grid}
use Rattle.pg_game.specs.declared.field.Field.{Field}
use Rattle.pg_game.specs.declared.field.Field.TheVariants.{Lines, Graph}
use Rattle.pg_characters.specs.declared.names.TheConstants.{LETTERS}

-- the lowercase letter of this number
abbrev pub letter : ℕ → Bytes
letter number = (97 + number) ∷ []

-- the name of a column: one letter, or two from the column of number 26 on
abbrev pub column_name : ℕ → Bytes
column_name column = (if nat_le LETTERS column then letter (column / LETTERS - 1) else [])
    ++ letter (column % LETTERS)

-- the blanks that make a number three characters wide
abbrev pub blanks_of : ℕ → Bytes
blanks_of number =
    if nat_lt number 10 then codes "  " else if nat_lt number 100 then codes " " else []

-- a number after its blanks, and before them
abbrev pub padded : ℕ → Bytes
padded number = blanks_of number ++ decimal number

abbrev pub padded_right : ℕ → Bytes
padded_right number = decimal number ++ blanks_of number

-- the name of a cell: its column, and its row from 1
abbrev pub cell_name : Grid → ℕ → Bytes
cell_name grid v = column_name (v % grid.width) ++ decimal (v / grid.width + 1)

-- the name of a point of a field on lines: that of its cell where there are cells, else its number
abbrev pub line_point_name : Option Grid → ℕ → Bytes
line_point_name (Some grid) v = cell_name grid v
line_point_name None v = decimal v

-- the name of a point
abbrev pub point_name : Field → ℕ → Bytes
point_name (Lines f) v = line_point_name f.grid v
point_name (Graph h) v = decimal v
