use Rattle.pg_families.proofs.OnVectors.{seen_answers}
use Rattle.pg_families.proofs.vec_play.VecContestantContestant.answer.Goals as goal

pub returns-clause-answered : goal.returns-clause-answered
returns-clause-answered c = seen_answers _ _ _ _ c.answer.ensures.answered
