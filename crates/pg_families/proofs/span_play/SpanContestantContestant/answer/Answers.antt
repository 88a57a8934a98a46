use Rattle.pg_families.proofs.Spans.{seen_answers}
use Rattle.pg_families.proofs.span_play.SpanContestantContestant.answer.Goals as goal

pub returns-clause-answered : goal.returns-clause-answered
returns-clause-answered c = seen_answers _ _ _ _ c.answer.ensures.answered
