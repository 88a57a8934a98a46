-- What a picture is laid out from: a board within the limits of games, and items whose points and
-- vertices are the board's.
use Rattle.std.specs.Prelude.{◌≡◌, ℕ, ◌+◌, ◌*◌, ◌-◌, ◌<◌, ◌≤◌, true, List, [], ◌∷◌, length, Option}
use Rattle.std.specs.Prelude.{IfSome}
use Rattle.pg_scene.specs.Prelude.{All, MAX_EDGES}
use Rattle.pg_game.specs.declared.bounds.TheConstants.{MAX_POINTS, MAX_LINE_POINTS, MAX_VERTICES}
use Rattle.pg_gen.specs.Bridge.{bridge_ends, has_bridge}
use Rattle.pg_gf2.specs.declared.game.TheConstants.{MAX_VECTORS}
use Rattle.pg_graph.specs.declared.graph.Graph.{Graph as Multigraph}
use Rattle.pg_scene.specs.declared.board.Board.{Board}
use Rattle.pg_scene.specs.declared.board.Board.TheVariants.{Grid, Ring, Laid, Graph, Table}
use Rattle.pg_scene.specs.declared.item.Item.{Item}
use Rattle.pg_scene.specs.declared.item.Item.TheVariants.{Point, Line, Pair, Weight, Member, Extra}
use Rattle.pg_scene.specs.declared.item.Item.TheVariants.{Step, Move, Reply, Part, Fault}
use Rattle.pg_scene.specs.declared.scene.Scene.{Scene}
use Rattle.pg_captions.specs.declared.lines.TheConstants.{MAX_LEGEND_LINES}

-- a graph of as many vertices as the Bridg-It board of so many rows, with its terminals
abbrev pub IsSized : Multigraph → ℕ → Type 0
IsSized h rows = (h.vertices ≡ rows * (rows - 1) + 2) × (h.s ≡ 0) × (h.t ≡ 1)

-- the vertices and edges of the Bridg-It board of so many rows, whose terminals are 0 and 1
pub record IsBridge (vertices : ℕ) (ends : List (ℕ × ℕ)) (terminals : List ℕ)
    (rows : ℕ) : Type 0 where
  pub has_rows : has_bridge rows ≡ true
  pub same_vertices : vertices ≡ rows * (rows - 1) + 2
  pub same_ends : ends ≡ bridge_ends rows
  pub same_terminals : terminals ≡ 0 ∷ 1 ∷ []

-- a multigraph within the limits, and the rows of the Bridg-It board that it is, where it is one
pub record IsGraphBoard (vertices : ℕ) (ends : List (ℕ × ℕ)) (terminals : List ℕ)
    (bridge : Option ℕ) : Type 0 where
  pub some_vertices : 2 ≤ vertices
  pub few_vertices : vertices ≤ MAX_VERTICES
  pub few_edges : length ends ≤ MAX_EDGES
  pub on_ends : All (λ e. (e.0 < vertices) × (e.1 < vertices)) ends
  pub on_terminals : All (λ u. u < vertices) terminals
  pub few_terminals : length terminals ≤ 2
  pub is_bridge : IfSome bridge (IsBridge vertices ends terminals)

-- a board within the limits
abbrev pub IsBoard : Board → Type 0
IsBoard (Grid width height) = (1 ≤ width * height) × (width * height ≤ MAX_POINTS)
IsBoard (Ring points) = (1 ≤ points) × (points ≤ MAX_POINTS)
IsBoard (Laid chart) = (1 ≤ chart.count) × (chart.count ≤ MAX_POINTS)
IsBoard (Graph vertices ends terminals bridge) = IsGraphBoard vertices ends terminals bridge
IsBoard (Table rows target) = length rows ≤ MAX_VECTORS

-- how many points a board has: its cells, the places of its ring or of its layout, its edges, or
-- its rows
abbrev pub points_on : Board → ℕ
points_on (Grid width height) = width * height
points_on (Ring points) = points
points_on (Laid chart) = chart.count
points_on (Graph vertices ends terminals bridge) = length ends
points_on (Table rows target) = length rows

-- how many vertices it has
abbrev pub vertices_on : Board → ℕ
vertices_on (Grid width height) = 0
vertices_on (Ring points) = 0
vertices_on (Laid chart) = 0
vertices_on (Graph vertices ends terminals bridge) = vertices
vertices_on (Table rows target) = 0

-- a board with a place for a further member of a set: the edge between two terminals, or the target
abbrev pub HasFurther : Board → Type 0
HasFurther (Grid width height) = ⊥
HasFurther (Ring points) = ⊥
HasFurther (Laid chart) = ⊥
HasFurther (Graph vertices ends terminals bridge) = length terminals ≡ 2
HasFurther (Table rows target) = Unit {0}

-- an item that can stand on the board
abbrev pub IsItemOn : Board → Item → Type 0
IsItemOn board (Point v mark) = v < points_on board
IsItemOn board (Line vs lane) =
    (1 ≤ length vs) × (length vs ≤ MAX_LINE_POINTS) × All (λ v. v < points_on board) vs
IsItemOn board (Pair v w number) = (v < points_on board) × (w < points_on board)
IsItemOn board (Weight v weight) = v < points_on board
IsItemOn board (Member v set) = v < points_on board
IsItemOn board (Extra set) = HasFurther board
IsItemOn board (Step v number) = v < points_on board
IsItemOn board (Move v child) = v < points_on board
IsItemOn board (Reply v child) = v < points_on board
IsItemOn board (Part u part) = u < vertices_on board
IsItemOn board Fault = Unit {0}

-- a board with items that can stand on it, and a short legend
pub record IsScene (scene : Scene) : Type 0 where
  pub board : IsBoard scene.board
  pub items : All (IsItemOn scene.board) scene.items
  pub few_lines : length scene.legend ≤ MAX_LEGEND_LINES
