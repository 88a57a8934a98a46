use Rattle.pg_solve.proofs.Counting.{open-reached, open-many}
use Rattle.pg_solve.proofs.laws.open_questions_need_positions.Goals as goal

pub returns-clause-reached : goal.returns-clause-reached
returns-clause-reached c = open-reached

pub returns-clause-complete : goal.returns-clause-complete
returns-clause-complete c = open-many
