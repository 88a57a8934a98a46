use Rattle.pg_scene.proofs.ReadBack.{points-game, points-moves, points-node}
use Rattle.pg_scene.proofs.laws.points_are_drawn_once.Goals as goal

pub returns-clause-games : goal.returns-clause-games
returns-clause-games c = points-game

pub returns-clause-nodes : goal.returns-clause-nodes
returns-clause-nodes c = points-node

pub returns-clause-moves : goal.returns-clause-moves
returns-clause-moves c = points-moves
