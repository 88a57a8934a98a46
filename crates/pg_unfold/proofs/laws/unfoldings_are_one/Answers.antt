use Rattle.pg_unfold.proofs.OneUnfolding.{one_unfolding}
use Rattle.pg_unfold.proofs.laws.unfoldings_are_one.Goals as goal

pub returns : goal.returns
returns c = one_unfolding
