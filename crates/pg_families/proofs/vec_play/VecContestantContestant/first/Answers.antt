use Rattle.pg_families.proofs.OnVectors.{seen_moves}
use Rattle.pg_families.proofs.vec_play.VecContestantContestant.first.Goals as goal

pub returns : goal.returns
returns c = seen_moves _ _ _ c.first.ensures
