-- Boards without cells that a layout draws. Each point is a text of three characters, of which the
-- first is at the point's place. A board that is wider than the terminal is shown in strips, each
-- with as many points beside each other as there is room for.
use Rattle.std.specs.Prelude.{ℕ, ◌+◌, ◌-◌, ◌/◌, ◌%◌, ◌++◌, ◌==◌, ◌&&◌, Bool, max, min, nat_le}
use Rattle.std.specs.Prelude.{nat_lt}
use Rattle.std.specs.Prelude.{if◌then◌else◌, List, [], ◌∷◌, length, codes, Option, Some, None}
use Rattle.std.specs.List.{flat_map, range_with_len}
use Rattle.pg_base.specs.Texts.{Bytes}
use Rattle.pg_base.specs.declared.side.Side.{Side}
use Rattle.pg_layout.specs.Layouts.{spots_of}
use Rattle.pg_layout.specs.declared.chart.Chart.{Chart}
use Rattle.pg_layout.specs.declared.spot.Spot.{Spot}
use Rattle.pg_characters.specs.Marks.{is_last, mark_of, painted}
use Rattle.pg_characters.specs.declared.charts.Cell.{Cell}
use Rattle.pg_characters.specs.declared.charts.Strip.{Strip}
use Rattle.pg_characters.specs.declared.charts.TheConstants.{MARK_WIDTH}
use Rattle.pg_characters.specs.declared.sheets.TheConstants.{NEXT_PART}
use Rattle.pg_characters.specs.declared.shown.Shown.{Shown}

-- the places that draw a board of so many points, if the layout has as many
abbrev pub drawn_by : ℕ → Option Chart → Option (List Spot)
drawn_by points None = None
drawn_by points (Some chart) =
    if length (spots_of chart) == points then Some (spots_of chart) else None

-- ---- the characters of a point

-- a character of a free point: of its number, in the middle if it has one digit
abbrev pub digit_of : Cell → ℕ
digit_of cell = if cell.place == 0
    then (if nat_lt cell.point 100 then 32 else 48 + cell.point / 100)
    else if cell.place == 1
    then (if nat_lt cell.point 10 then 48 + cell.point else 48 + cell.point / 10 % 10)
    else (if nat_lt cell.point 10 then 32 else 48 + cell.point % 10)

-- a character of a point of a side: its mark, in brackets if the point was claimed last
abbrev pub mark_cell : Shown → Cell → Side → Bytes
mark_cell s cell side = if cell.place == 1
    then painted s.look.colour side
    else if is_last s.last cell.point
    then (if cell.place == 0 then codes "[" else codes "]")
    else codes " "

abbrev pub owned_cell : Shown → Cell → Option Side → Bytes
owned_cell s cell None = digit_of cell ∷ []
owned_cell s cell (Some side) = mark_cell s cell side

-- a character of a point
abbrev pub point_cell : Shown → Cell → Bytes
point_cell s cell = owned_cell s cell (mark_of s.position cell.point)

-- ---- lines

-- whether a point at this place takes the character in this line and column, if it is in the strip
abbrev pub takes : Strip → ℕ → ℕ → Spot → Bool
takes strip line column spot = spot.line == line
    && (nat_le strip.first spot.column && (nat_lt (spot.column - strip.first) strip.count
    && (nat_le spot.column column && nat_lt (column - spot.column) MARK_WIDTH)))

-- the character in this line and column, of the points from this number on
abbrev pub taken_from : Strip → ℕ → ℕ → ℕ → List Spot → Option Cell
taken_from strip line column v [] = None
taken_from strip line column v (spot ∷ others) = if takes strip line column spot
    then Some (record { point = v; place = column - spot.column })
    else taken_from strip line column (v + 1) others

-- a character of a point, or a blank
abbrev pub cell_or_blank : Shown → Option Cell → Bytes
cell_or_blank s None = codes " "
cell_or_blank s (Some cell) = point_cell s cell

abbrev pub cell_text : List Spot → Shown → Strip → ℕ → ℕ → Bytes
cell_text spots s strip line column = cell_or_blank s (taken_from strip line column 0 spots)

-- a line of a strip: the last point may begin in its last column
unfoldable pub row_text : List Spot → Shown → Strip → ℕ → Bytes
row_text spots s strip line = flat_map (λ i. cell_text spots s strip line (strip.first + i))
    (range_with_len 0 (strip.count + (MARK_WIDTH - 1)))
    ++ codes "\n"

-- ---- strips

-- in how many lines and columns the places are
abbrev pub lines_in : List Spot → ℕ
lines_in [] = 0
lines_in (spot ∷ others) = max (spot.line + 1) (lines_in others)

abbrev pub columns_in : List Spot → ℕ
columns_in [] = 0
columns_in (spot ∷ others) = max (spot.column + 1) (columns_in others)

-- all lines of a strip
unfoldable pub rows_text : List Spot → Shown → Strip → Bytes
rows_text spots s strip = flat_map (row_text spots s strip) (range_with_len 0 (lines_in spots))

-- in how many columns the places of a strip are, so that its last point has room
abbrev pub many_places : ℕ → ℕ
many_places columns = max (columns - (MARK_WIDTH - 1)) 1

-- the strip that begins at a column, of places in so many columns
abbrev pub strip_at : ℕ → ℕ → ℕ → Strip
strip_at wide columns first =
    record { first = first; count = min (many_places columns) (wide - first) }

-- the strip that begins at a column, if one does
unfoldable pub strip_text : List Spot → Shown → ℕ → ℕ → Bytes
strip_text spots s wide first = if first % many_places s.look.columns == 0
    then (if first == 0 then [] else NEXT_PART.now)
    ++ rows_text spots s (strip_at wide s.look.columns first)
    else []

-- all strips
unfoldable pub chart_text : List Spot → Shown → Bytes
chart_text spots s =
    flat_map (strip_text spots s (columns_in spots)) (range_with_len 0 (columns_in spots))
