-- What is to be seen on a page: the board of a node, with what its body names.
use Rattle.std.specs.Prelude.{true, false, List, [], ◌∷◌, ◌++◌, Option, Some, None}
use Rattle.std.specs.List.{flat_map}
use Rattle.std.specs.FinSet.{empty}
use Rattle.pg_base.specs.declared.side.Side.{Side}
use Rattle.pg_base.specs.declared.side.Side.TheVariants.{X}
use Rattle.pg_cert.specs.Node.{position_of}
use Rattle.pg_cert.specs.declared.node.Node.{Node}
use Rattle.pg_draw.specs.Pictures.{picture_of}
use Rattle.pg_game.specs.Game.{lines_of, point_count}
use Rattle.pg_game.specs.declared.game.Game.{Game}
use Rattle.pg_layout.specs.declared.chart.Chart.{Chart}
use Rattle.pg_picture.specs.declared.picture.Picture.{Picture}
use Rattle.pg_scene.specs.Items.{body_items, fault_items, line_items, point_items}
use Rattle.pg_scene.specs.declared.board.Board.{Board}
use Rattle.pg_scene.specs.declared.item.Item.{Item}
use Rattle.pg_scene.specs.declared.item.Item.TheVariants as items
use Rattle.pg_captions.specs.declared.look.Legend.TheVariants.{OfBody}
use Rattle.pg_captions.specs.declared.look.Look.{Look}
use Rattle.pg_scene.specs.declared.scene.Scene.{Scene}
use Rattle.pg_book.specs.Boards.{board_of}

-- what a page shows of a node: no lines, of the legend what the body says, and the points at the
-- places of a layout if there is one
abbrev pub page_look : Option Chart → Look
page_look chart = record {
  numbers = true;
  lines = false;
  legend = OfBody;
  size = None;
  blank = None;
  layout = chart;
}

-- ---- items

-- the items of a node's scene that its page shows: points with marks, pairs, weights, steps and the
-- members of sets. The board without marks is behind them all, and moves and replies are links.
abbrev pub kept : Item → List Item
kept (items.Point v (Some side)) = items.Point v (Some side) ∷ []
kept (items.Pair v w number) = items.Pair v w number ∷ []
kept (items.Weight v weight) = items.Weight v weight ∷ []
kept (items.Step v number) = items.Step v number ∷ []
kept (items.Member v set) = items.Member v set ∷ []
kept (items.Extra set) = items.Extra set ∷ []
kept _ = []

-- the items of a node
abbrev pub node_items : Game → Side → Node → List Item
node_items g side node = point_items (point_count g) (position_of node)
    ++ (line_items false (lines_of g)
    ++ (body_items g (position_of node) side node.body ++ fault_items None))

-- the points of a game without marks
abbrev pub blank_items : Game → List Item
blank_items g =
    point_items (point_count g) (record { x = empty; y = empty; turn = X; left = 1 })

-- ---- scenes

-- the scene of a board on which these items are to be seen
abbrev pub scene_by : Board → List Item → Scene
scene_by board items = record { title = []; board = board; items = items; legend = [] }

-- the scene of a node's page
abbrev pub page_scene : Game → Option Chart → Side → Node → Scene
page_scene g chart side node =
    scene_by (board_of chart g.field) (flat_map kept (node_items g side node))

-- the picture of a node's page
abbrev pub page_picture : Game → Option Chart → Side → Node → Picture
page_picture g chart side node = picture_of (page_look chart) (page_scene g chart side node)

-- the picture of a game's board without marks
abbrev pub blank_picture : Game → Option Chart → Picture
blank_picture g chart =
    picture_of (page_look chart) (scene_by (board_of chart g.field) (blank_items g))
