use Rattle.pg_talk.proofs.Players.{seen_answers}
use Rattle.pg_talk.proofs.contestant.PlayerContestant.answer.Goals as goal

pub returns-clause-answered : goal.returns-clause-answered
returns-clause-answered c = seen_answers _ _ _ _ c.answer.ensures.answered
