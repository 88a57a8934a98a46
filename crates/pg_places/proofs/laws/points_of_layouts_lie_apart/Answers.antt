use Rattle.pg_places.proofs.Layouts.{layouts_apart}
use Rattle.pg_places.proofs.laws.points_of_layouts_lie_apart.Goals as goal

pub returns : goal.returns
returns c = layouts_apart
