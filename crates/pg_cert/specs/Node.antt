-- The nodes of a claim.
use Rattle.pg_game.specs.declared.position.Position.{Position}
use Rattle.pg_cert.specs.declared.node.Node.{Node}

-- the position that a node speaks of
abbrev pub position_of : Node → Position
position_of node = record { x = node.x; y = node.y; turn = node.turn; left = node.left }
