-- What a page shows of a node.
use Rattle.std.specs.Prelude.{◌≡◌, Option, Some}
use Rattle.pg_base.specs.declared.side.Side.{Side}
use Rattle.pg_cert.specs.Node.{position_of}
use Rattle.pg_cert.specs.declared.node.Node.{Node}
use Rattle.pg_game.specs.declared.game.Game.{Game}
use Rattle.pg_captions.specs.Legends.{body_lines}
use Rattle.pg_layout.specs.declared.chart.Chart.{Chart}
use Rattle.pg_book.specs.Scenes.{page_picture}
use Rattle.pg_book.specs.declared.scenes.Shown.{Shown}

-- the picture of a node's page, and what its body names
pub record IsShownOf (g : Game) (chart : Option Chart) (side : Side) (node : Node)
    (found : Option Shown) : Type 0 where
  pub shown : Shown
  pub is : found ≡ Some shown
  pub picture : shown.picture ≡ page_picture g chart side node
  pub legend : shown.legend ≡ body_lines g (position_of node) side node.body
