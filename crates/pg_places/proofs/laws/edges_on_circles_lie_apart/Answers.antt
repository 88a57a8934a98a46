use Rattle.pg_places.proofs.Chords.{few_apart, more_apart}
use Rattle.pg_places.proofs.laws.edges_on_circles_lie_apart.Goals as goal

pub returns-clause-apart : goal.returns-clause-apart
returns-clause-apart c = more_apart

pub returns-clause-clear : goal.returns-clause-clear
returns-clause-clear c = few_apart
