use Rattle.pg_near.proofs.Places.{stays}
use Rattle.pg_near.proofs.laws.nodes_stay.Goals as goal

pub returns : goal.returns
returns c = stays
