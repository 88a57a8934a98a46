use Rattle.pg_places.proofs.Circles.{members_apart}
use Rattle.pg_places.proofs.laws.members_of_circles_lie_apart.Goals as goal

pub returns : goal.returns
returns c = members_apart
