use Rattle.pg_near.proofs.Places.{node-moved}
use Rattle.pg_near.proofs.laws.nodes_are_moved.Goals as goal

pub returns : goal.returns
returns c = node-moved
