use Rattle.pg_families.proofs.Spans.{seen_moves}
use Rattle.pg_families.proofs.span_play.SpanContestantContestant.first.Goals as goal

pub returns : goal.returns
returns c = seen_moves _ _ _ c.first.ensures
