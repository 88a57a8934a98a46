use Rattle.pg_sessions.proofs.LossLaws.{told_each, told_more, told_ordered}
use Rattle.pg_sessions.proofs.laws.losses_are_told.Goals as goal

pub returns-clause-each : goal.returns-clause-each
returns-clause-each c = told_each

pub returns-clause-ordered : goal.returns-clause-ordered
returns-clause-ordered c = told_ordered

pub returns-clause-more : goal.returns-clause-more
returns-clause-more c = told_more
