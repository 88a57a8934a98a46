use Rattle.pg_sessions.proofs.Refusals.{whole_ends}
use Rattle.pg_sessions.proofs.laws.refusals_end_sessions.Goals as goal

pub returns : goal.returns
returns c = whole_ends
