-- How many columns the lines of a board take.
use Rattle.std.proofs.Common.{◌≡◌, ℕ, ◌+◌, ◌-◌, ◌*◌, ◌≤◌}
use Rattle.std.proofs.Common.{refl, List, [], ◌++◌, arith}
use Rattle.std.specs.Prelude.{Option, Some, None}
use Rattle.pg_base.specs.declared.grid.Grid.{Grid}
use Rattle.pg_characters.proofs.Fit.{Whole, whole_and, whole_none}
use Rattle.pg_characters.proofs.PrintedCharts.{whole_chart}
use Rattle.pg_characters.proofs.PrintedSheets.{whole_entries, whole_sheet}
use Rattle.pg_characters.proofs.Ranges.{found_passes}
use Rattle.pg_characters.proofs.Widths.{few_columns, few_rows, some_columns}
use Rattle.pg_characters.specs.Bridges.{is_bridge, paper_rows}
use Rattle.pg_characters.specs.Charts.{drawn_by}
use Rattle.pg_characters.specs.Entries.{entries_text}
use Rattle.pg_characters.specs.Sheets.{IsSheet, sheet_text}
use Rattle.pg_characters.specs.declared.sheets.Sheet.TheVariants.{Cells, Paper}
use Rattle.pg_characters.specs.declared.shown.Shown.{Shown}
use Rattle.pg_game.specs.Fit.{AreLinesOf}
use Rattle.pg_game.specs.Game.{point_count}
use Rattle.pg_game.specs.declared.field.Field.{Field}
use Rattle.pg_game.specs.declared.field.Field.TheVariants.{Lines, Graph as OnGraph}
use Rattle.pg_game.specs.declared.field.LineField.{LineField}
use Rattle.pg_game.specs.declared.game.Game.{Game}
use Rattle.pg_gen.specs.declared.limits.TheConstants.{MAX_BRIDGE_ROWS}
use Rattle.pg_graph.specs.declared.graph.Graph.{Graph}
use Rattle.pg_layout.specs.declared.spot.Spot.{Spot}
use Rattle.pg_table.specs.Board.{board_text, field_picture, graph_picture, lines_beside, open_on}
use Rattle.pg_table.specs.Board.{placed_at, placed_text, points_picture}
use Rattle.pg_table.specs.OpenLines.{lines_text}
use Rattle.pg_table.proofs.PrintedLines.{whole_open}

-- a board of cells, as the sheet that is printed
sheet_of : (grid : Grid) (points : ℕ)
    → grid.width * grid.height ≡ points
    → 1 ≤ points
    → points ≤ 256
    → IsSheet (Cells grid.width grid.height)
sheet_of grid points cells some few =
    let width = few_columns grid.width grid.height points cells some in
    let height = few_rows grid.width grid.height points cells some in (
      some_columns grid.width grid.height points cells some,
      omega (arith, width, few),
      omega (arith, height, few),
      omega (arith, cells, few),
    )

whole_placed : (g : Game) (s : Shown)
    → 80 ≤ s.look.columns
    → Whole s.look.columns (placed_text g s)
whole_placed g s wide = go (drawn_by (point_count g) s.look.layout) where
  go : (spots : Option (List Spot)) → Whole s.look.columns (placed_at g s spots)
  go None = whole_entries g s wide
  go (Some spots) = whole_chart spots s wide

whole_points : (g : Game) (s : Shown) (f : LineField)
    → 80 ≤ s.look.columns
    → AreLinesOf g.bias f
    → Whole s.look.columns (points_picture g s f.grid ++ lines_beside g s f.grid)
whole_points g s f wide fits = go f.grid refl where
  go : (grid : Option Grid)
      → f.grid ≡ grid
      → Whole s.look.columns (points_picture g s grid ++ lines_beside g s grid)
  go (Some grid) is = whole_and s.look.columns (sheet_text (Cells grid.width grid.height) s) []
      (whole_sheet (Cells grid.width grid.height) s
      (sheet_of grid f.points (fits.cells grid is) fits.some_points fits.few_points) wide)
      (whole_none s.look.columns)
  go None is = whole_and s.look.columns (placed_text g s) (lines_text g s.position None)
      (whole_placed g s wide) (whole_open s.look.columns g s.position None wide)

whole_edges : (g : Game) (s : Shown) (h : Graph)
    → 80 ≤ s.look.columns
    → Whole s.look.columns (graph_picture g s (paper_rows h) ++ [])
unfolding paper_rows
whole_edges g s h wide = go (paper_rows h) refl where
  go : (rows : Option ℕ)
      → paper_rows h ≡ rows
      → Whole s.look.columns (graph_picture g s rows ++ [])
  go (Some rows) is =
      let found = found_passes (is_bridge h) 1 MAX_BRIDGE_ROWS rows is in
      whole_and s.look.columns (sheet_text (Paper rows) s) []
      (whole_sheet (Paper rows) s (found.0, omega (arith, found.1)) wide)
      (whole_none s.look.columns)
  go None is = whole_and s.look.columns (entries_text g s) [] (whole_entries g s wide)
      (whole_none s.look.columns)

pub whole_board : (g : Game) (s : Shown)
    → 80 ≤ s.look.columns
    → Whole s.look.columns (board_text g s)
whole_board g s wide = go g.field refl where
  go : (field : Field)
      → g.field ≡ field
      → Whole s.look.columns (field_picture g s field ++ open_on g s field)
  go (Lines f) is = whole_points g s f wide (g.fits.within.on_lines f is)
  go (OnGraph h) is = whole_edges g s h wide
