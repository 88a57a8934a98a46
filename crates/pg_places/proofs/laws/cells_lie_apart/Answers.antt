use Rattle.pg_places.proofs.Apart.{cells_apart}
use Rattle.pg_places.proofs.laws.cells_lie_apart.Goals as goal

pub returns : goal.returns
returns c = cells_apart
