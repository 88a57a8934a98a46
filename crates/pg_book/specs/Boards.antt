-- The boards of games.
use Rattle.std.specs.Prelude.{ℕ, zero, suc, ◌+◌, ◌*◌, ◌-◌, Bool, true, false, ◌&&◌, ◌==◌, List}
use Rattle.std.specs.Prelude.{[], ◌∷◌, Option, Some, None, if◌then◌else◌}
use Rattle.pg_draw.specs.Shapes.{courses_of}
use Rattle.pg_game.specs.declared.field.Field.{Field}
use Rattle.pg_game.specs.declared.field.Field.TheVariants as fields
use Rattle.pg_game.specs.declared.game.Game.{Game}
use Rattle.pg_gen.specs.Bridge.{bridge_ends, has_bridge}
use Rattle.pg_gen.specs.declared.limits.TheConstants.{MAX_BRIDGE_ROWS}
use Rattle.pg_graph.specs.declared.graph.Graph.{Graph as Multigraph}
use Rattle.pg_layout.specs.declared.chart.Chart.{Chart}
use Rattle.pg_scene.specs.Scenes.{laid_board}
use Rattle.pg_scene.specs.declared.board.Board.{Board}
use Rattle.pg_scene.specs.declared.board.Board.TheVariants.{Graph}
use Rattle.pg_book_parts.specs.declared.layout.Layout.{Layout}

-- ---- boards of Bridg-It

-- whether the edges have the same ends in the same order
abbrev pub are_same : List (ℕ × ℕ) → List (ℕ × ℕ) → Bool
are_same [] [] = true
are_same [] (f ∷ fs) = false
are_same (e ∷ es) [] = false
are_same (e ∷ es) (f ∷ fs) = e.0 == f.0 && (e.1 == f.1 && are_same es fs)

-- whether the graph is the board of so many rows
unfoldable pub is_bridge : Multigraph → ℕ → Bool
is_bridge h r = has_bridge r && (h.vertices == r * (r - 1) + 2
    && (h.s == 0 && (h.t == 1 && are_same h.ends (bridge_ends r))))

-- the rows of the board that the graph is, if it is one of fewer than n rows
unfoldable pub rows_below : Multigraph → ℕ → Option ℕ
rows_below h zero = None
rows_below h (suc r) = if is_bridge h r then Some r else rows_below h r

-- the rows of the board that the graph is, if it is one
unfoldable pub rows_of : Multigraph → Option ℕ
rows_of h = rows_below h (suc MAX_BRIDGE_ROWS)

-- ---- boards

-- the board of what a game is played on. The points of a game on lines without a grid are at the
-- places of a layout that has as many.
abbrev pub board_of : Option Chart → Field → Board
board_of chart (fields.Lines f) = laid_board chart f.grid f.points
board_of chart (fields.Graph h) = Graph h.vertices h.ends (h.s ∷ h.t ∷ []) (rows_of h)

-- what moves of a game are named and placed by, with a layout if there is one
abbrev pub layout_of : Option Chart → Game → Layout
layout_of chart g = record {
  kind = g.kind;
  chart = chart;
  board = board_of chart g.field;
  courses = courses_of (board_of chart g.field);
}
