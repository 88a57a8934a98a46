use Rattle.pg_base.specs.WordLemmas.{members-zeros}
use Rattle.pg_base.proofs.point_set.PointSet.empty.Goals as goal

pub returns : goal.returns
returns c = members-zeros
