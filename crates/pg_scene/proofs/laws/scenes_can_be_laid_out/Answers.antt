use Rattle.pg_scene.proofs.Within.{IsScene-game, IsScene-moves, IsScene-node}
use Rattle.pg_scene.proofs.laws.scenes_can_be_laid_out.Goals as goal

pub returns-clause-games : goal.returns-clause-games
returns-clause-games c = IsScene-game

pub returns-clause-nodes : goal.returns-clause-nodes
returns-clause-nodes c = IsScene-node

pub returns-clause-moves : goal.returns-clause-moves
returns-clause-moves c = IsScene-moves
