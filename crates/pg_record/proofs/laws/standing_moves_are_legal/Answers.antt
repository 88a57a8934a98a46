use Rattle.pg_record.proofs.Standing.{legal-standing, position-standing, few-standing}
use Rattle.pg_record.proofs.laws.standing_moves_are_legal.Goals as goal

pub returns-clause-legal : goal.returns-clause-legal
returns-clause-legal c = legal-standing

pub returns-clause-position : goal.returns-clause-position
returns-clause-position c = position-standing

pub returns-clause-few : goal.returns-clause-few
returns-clause-few c = few-standing
