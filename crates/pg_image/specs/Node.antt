-- The nodes of a claim with images.
use Rattle.pg_game.specs.declared.position.Position.{Position}
use Rattle.pg_cert.specs.Node.{position_of}
use Rattle.pg_image.specs.declared.node.ImageNode.{ImageNode}
use Rattle.pg_image.specs.declared.node.ImageNode.TheVariants.{Plain, Image}

-- the position that a node speaks of
abbrev pub image_node_position : ImageNode → Position
image_node_position (Plain node) = position_of node
image_node_position (Image x y turn left map child) = record {
  x = x;
  y = y;
  turn = turn;
  left = left;
}
