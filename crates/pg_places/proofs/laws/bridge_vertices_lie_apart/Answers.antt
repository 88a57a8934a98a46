use Rattle.pg_places.proofs.Apart.{vertices_apart}
use Rattle.pg_places.proofs.laws.bridge_vertices_lie_apart.Goals as goal

pub returns : goal.returns
returns c = vertices_apart
