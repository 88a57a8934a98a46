-- Boards whose points have places in rows and columns. A board that is wider than the terminal is
-- shown in parts, each with as many columns as there is room for.
use Rattle.std.specs.Prelude.{ℕ, ◌+◌, ◌-◌, ◌*◌, ◌/◌, ◌%◌, ◌++◌, ◌==◌, ◌<◌, ◌≤◌, max, min, nat_lt}
use Rattle.std.specs.Prelude.{if◌then◌else◌, [], codes}
use Rattle.std.specs.List.{flat_map, range_with_len}
use Rattle.pg_base.specs.Texts.{Bytes}
use Rattle.pg_game.specs.declared.bounds.TheConstants.{MAX_POINTS}
use Rattle.pg_gen.specs.declared.limits.TheConstants.{MAX_BRIDGE_ROWS}
use Rattle.pg_characters.specs.Marks.{marked}
use Rattle.pg_characters.specs.Names.{column_name, padded}
use Rattle.pg_characters.specs.Paper.{spot_text}
use Rattle.pg_characters.specs.Spots.{span_of}
use Rattle.pg_characters.specs.declared.names.TheConstants.{LETTERS}
use Rattle.pg_characters.specs.declared.sheets.Part.{Part}
use Rattle.pg_characters.specs.declared.sheets.Sheet.{Sheet}
use Rattle.pg_characters.specs.declared.sheets.Sheet.TheVariants.{Cells, Paper}
use Rattle.pg_characters.specs.declared.sheets.TheConstants.{LABEL_WIDTH, NEXT_PART, PLACE_WIDTH}
use Rattle.pg_characters.specs.declared.shown.Shown.{Shown}

-- a sheet of a game's size
abbrev pub IsSheet : Sheet → Type 0
IsSheet (Cells width height) = (0 < width)
    × (width ≤ MAX_POINTS) × (height ≤ MAX_POINTS) × (width * height ≤ MAX_POINTS)
IsSheet (Paper rows) = (1 ≤ rows) × (rows ≤ MAX_BRIDGE_ROWS)

-- how many columns and rows of places it has
abbrev pub width_of : Sheet → ℕ
width_of (Cells width height) = width
width_of (Paper rows) = span_of rows

abbrev pub height_of : Sheet → ℕ
height_of (Cells width height) = height
height_of (Paper rows) = span_of rows

-- how many characters stand before the places of a row
abbrev pub label_width : Sheet → ℕ
label_width (Cells width height) = LABEL_WIDTH
label_width (Paper rows) = 0

-- what stands before the places of a row: the number of a row of cells, from 1
abbrev pub label_text : Sheet → ℕ → Bytes
label_text (Cells width height) row = padded (row + 1) ++ codes " "
label_text (Paper rows) row = []

-- what is at a place, three characters wide
abbrev pub place_text : Sheet → Shown → ℕ → ℕ → Bytes
place_text (Cells width height) s row column = marked s (row * width + column) (codes " . ")
place_text (Paper rows) s row column = spot_text rows s row column

-- a row of the columns of a part
unfoldable pub row_text : Sheet → Shown → Part → ℕ → Bytes
row_text sheet s part row = label_text sheet row
    ++ (flat_map (λ i. place_text sheet s row (part.first + i)) (range_with_len 0 part.count)
    ++ codes "\n")

-- the title of a column, three characters wide
abbrev pub title_text : ℕ → Bytes
title_text column =
    (if nat_lt column LETTERS then codes " " else []) ++ (column_name column ++ codes " ")

-- the titles of the columns of a part
unfoldable pub titles_text : Part → Bytes
titles_text part = codes "    "
    ++ (flat_map (λ i. title_text (part.first + i)) (range_with_len 0 part.count) ++ codes "\n")

-- what stands above a part: the titles of columns of cells; else, if the part isn't the first, that
-- it continues the rows of the one before
abbrev pub heading_text : Sheet → Part → Bytes
heading_text (Cells width height) part = titles_text part
heading_text (Paper rows) part = if part.first == 0 then [] else NEXT_PART.now

-- how many columns are shown beside each other
abbrev pub many_columns : Sheet → ℕ → ℕ
many_columns sheet columns = max ((columns - label_width sheet) / PLACE_WIDTH) 1

-- the part that begins at a column
abbrev pub part_at : Sheet → ℕ → ℕ → Part
part_at sheet columns first =
    record { first = first; count = min (many_columns sheet columns) (width_of sheet - first) }

-- all rows of a part
unfoldable pub rows_text : Sheet → Shown → Part → Bytes
rows_text sheet s part = flat_map (row_text sheet s part) (range_with_len 0 (height_of sheet))

-- the part that begins at a column, if one does
unfoldable pub part_text : Sheet → Shown → ℕ → Bytes
part_text sheet s first = if first % many_columns sheet s.look.columns == 0
    then heading_text sheet (part_at sheet s.look.columns first)
    ++ rows_text sheet s (part_at sheet s.look.columns first)
    else []

-- all parts
unfoldable pub sheet_text : Sheet → Shown → Bytes
sheet_text sheet s = flat_map (part_text sheet s) (range_with_len 0 (width_of sheet))
