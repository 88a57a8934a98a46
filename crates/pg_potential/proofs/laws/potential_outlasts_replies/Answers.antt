use Rattle.pg_potential.proofs.PotentialLaws.{kept-reply_breaker, kept-reply_draw}
use Rattle.pg_potential.proofs.laws.potential_outlasts_replies.Goals as goal

pub returns : goal.returns
returns c = record { breaker = kept-reply_breaker; draw = kept-reply_draw }
