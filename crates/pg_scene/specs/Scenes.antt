-- What is to be seen of a game, and of a node of a certificate.
use Rattle.std.specs.Prelude.{◌≡◌, ℕ, List, [], ◌∷◌, ◌++◌, Option, Some, None, IfSome, IfNone}
use Rattle.std.specs.Prelude.{slice_get, ◌==◌, if◌then◌else◌}
use Rattle.pg_scene.specs.Prelude.{position_of, Claim, Node, lines_of, point_count, start, Field}
use Rattle.pg_scene.specs.Prelude.{Lines, Game}
use Rattle.pg_cert.specs.declared.cert.Cert.{Cert}
use Rattle.pg_game.specs.declared.field.Field.TheVariants.{Graph as OnGraph}
use Rattle.pg_base.specs.declared.grid.Grid.{Grid as Cells}
use Rattle.pg_layout.specs.declared.chart.Chart.{Chart}
use Rattle.pg_scene.specs.Items.{body_items, fault_items, line_items, point_items}
use Rattle.pg_captions.specs.Look.{seen_at}
use Rattle.pg_scene.specs.Limits.{IsBridge}
use Rattle.pg_captions.specs.Legends.{game_legend, node_legend}
use Rattle.pg_captions.specs.Words.{kind_title, node_title}
use Rattle.pg_scene.specs.declared.board.Board.{Board}
use Rattle.pg_scene.specs.declared.board.Board.TheVariants.{Grid, Ring, Laid, Graph}
use Rattle.pg_captions.specs.declared.look.Look.{Look}
use Rattle.pg_scene.specs.declared.scene.Scene.{Scene}

-- ---- boards

-- the board of so many points: cells where there is a grid, else a ring
abbrev pub line_board : Option Cells → ℕ → Board
line_board (Some cells) points = Grid cells.width cells.height
line_board None points = Ring points

-- the board of points with a layout: without a grid they are at its places, if it has as many
abbrev pub laid_board : Option Chart → Option Cells → ℕ → Board
laid_board None grid points = line_board grid points
laid_board (Some chart) (Some cells) points = line_board (Some cells) points
laid_board (Some chart) None points =
    if chart.count == points then Laid chart else line_board None points

-- the board of a multigraph, with the rows of the Bridg-It board that it is, where it is one
pub record IsDrawnGraph (vertices : ℕ) (ends : List (ℕ × ℕ)) (terminals : List ℕ)
    (board : Board) : Type 0 where
  pub rows : Option ℕ
  pub same : board ≡ Graph vertices ends terminals rows
  pub found : IfSome rows (IsBridge vertices ends terminals)
  pub missed : IfNone rows ((r : ℕ) → IsBridge vertices ends terminals r → ⊥)

-- the board of what a game is played on, where a layout may say the places of its points
abbrev pub IsBoardOf : Option Chart → Field → Board → Type 0
IsBoardOf layout (Lines f) board = board ≡ laid_board layout f.grid f.points
IsBoardOf layout (OnGraph h) board = IsDrawnGraph h.vertices h.ends (h.s ∷ h.t ∷ []) board

-- ---- scenes

-- a game: its points with their marks, or without marks on blank boards, and its lines
pub record IsSceneOfGame (look : Look) (g : Game) (scene : Scene) : Type 0 where
  pub title : scene.title ≡ kind_title g.kind
  pub board : IsBoardOf look.layout g.field scene.board
  pub items : scene.items
      ≡ point_items (point_count g) (seen_at look.blank (start g))
      ++ line_items look.lines (lines_of g)
  pub legend : scene.legend ≡ game_legend look g (seen_at look.blank (start g))

-- a node of a claim: the game's points with the marks that the node says, the lines, what the body
-- names, and whether the node is faulty
pub record IsSceneOf (look : Look) (g : Game) (claim : Claim) (number : ℕ) (node : Node)
    (fault : Option ℕ) (scene : Scene) : Type 0 where
  pub title : scene.title ≡ node_title g.kind claim number fault
  pub board : IsBoardOf look.layout g.field scene.board
  pub items : scene.items
      ≡ point_items (point_count g) (position_of node) ++ (line_items look.lines (lines_of g)
      ++ (body_items g (position_of node) claim.side node.body ++ fault_items fault))
  pub legend : scene.legend ≡ node_legend look g claim (position_of node) node.body fault

-- the certificate's claim and node of these numbers
pub record AreNamed (c : Cert) (claim number : ℕ) (whole : Claim) (node : Node) : Type 0 where
  pub claim_at : slice_get c.claims claim ≡ Some whole
  pub node_at : slice_get whole.nodes number ≡ Some node

-- the node of that number, of the certificate's claim of that number
pub record IsSceneOfNode (look : Look) (g : Game) (c : Cert) (claim number : ℕ)
    (fault : Option ℕ) (scene : Scene) : Type 0 where
  pub whole : Claim
  pub node : Node
  pub named : AreNamed c claim number whole node
  pub shown : IsSceneOf look g whole number node fault scene

-- the certificate has no such node
abbrev pub LacksNode : Cert → ℕ → ℕ → Type 0
LacksNode c claim number = (whole : Claim) (node : Node) → AreNamed c claim number whole node → ⊥
