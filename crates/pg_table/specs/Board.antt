-- THE TEXT OF A BOARD: a function of the game, the position and the point claimed last.
use Rattle.std.specs.Prelude.{ℕ, ◌++◌, List, [], Option, Some, None}
use Rattle.pg_base.specs.Texts.{Bytes}
use Rattle.pg_base.specs.declared.grid.Grid.{Grid}
use Rattle.pg_game.specs.Game.{point_count}
use Rattle.pg_game.specs.declared.field.Field.{Field}
use Rattle.pg_game.specs.declared.field.Field.TheVariants.{Lines, Graph as OnGraph}
use Rattle.pg_game.specs.declared.game.Game.{Game}
use Rattle.pg_layout.specs.declared.spot.Spot.{Spot}
use Rattle.pg_characters.specs.Bridges.{paper_rows}
use Rattle.pg_characters.specs.Charts.{chart_text, drawn_by}
use Rattle.pg_characters.specs.Entries.{entries_text}
use Rattle.pg_table.specs.OpenLines.{lines_text}
use Rattle.pg_characters.specs.Sheets.{sheet_text}
use Rattle.pg_characters.specs.declared.sheets.Sheet.TheVariants.{Cells, Paper}
use Rattle.pg_characters.specs.declared.shown.Shown.{Shown}

-- points that are no cells: at the places of a layout, or entries in rows
abbrev pub placed_at : Game → Shown → Option (List Spot) → Bytes
placed_at g s (Some spots) = chart_text spots s
placed_at g s None = entries_text g s

abbrev pub placed_text : Game → Shown → Bytes
placed_text g s = placed_at g s (drawn_by (point_count g) s.look.layout)

-- a field of points: a grid of cells, or points that are no cells
abbrev pub points_picture : Game → Shown → Option Grid → Bytes
points_picture g s (Some grid) = sheet_text (Cells grid.width grid.height) s
points_picture g s None = placed_text g s

-- a graph: the Bridg-It board of so many rows as it is on paper, or entries in rows
abbrev pub graph_picture : Game → Shown → Option ℕ → Bytes
graph_picture g s (Some rows) = sheet_text (Paper rows) s
graph_picture g s None = entries_text g s

abbrev pub field_picture : Game → Shown → Field → Bytes
field_picture g s (Lines f) = points_picture g s f.grid
field_picture g s (OnGraph h) = graph_picture g s (paper_rows h)

abbrev pub picture_text : Game → Shown → Bytes
picture_text g s = field_picture g s g.field

-- the lines that are open, if the game is on lines of points that are no cells
abbrev pub lines_beside : Game → Shown → Option Grid → Bytes
lines_beside g s (Some grid) = []
lines_beside g s None = lines_text g s.position None

abbrev pub open_on : Game → Shown → Field → Bytes
open_on g s (Lines f) = lines_beside g s f.grid
open_on g s (OnGraph h) = []

abbrev pub open_text : Game → Shown → Bytes
open_text g s = open_on g s g.field

-- the text of a board
abbrev pub board_text : Game → Shown → Bytes
board_text g s = picture_text g s ++ open_text g s
