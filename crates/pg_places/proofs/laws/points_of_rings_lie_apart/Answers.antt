use Rattle.pg_places.proofs.Circles.{ring_apart}
use Rattle.pg_places.proofs.laws.points_of_rings_lie_apart.Goals as goal

pub returns : goal.returns
returns c = ring_apart
