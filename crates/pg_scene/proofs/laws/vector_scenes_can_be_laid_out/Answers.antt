use Rattle.pg_scene.proofs.VectorWithin.{IsScene-vector, IsScene-vector_game}
use Rattle.pg_scene.proofs.laws.vector_scenes_can_be_laid_out.Goals as goal

pub returns-clause-games : goal.returns-clause-games
returns-clause-games c = IsScene-vector_game

pub returns-clause-nodes : goal.returns-clause-nodes
returns-clause-nodes c = IsScene-vector
