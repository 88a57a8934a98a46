use Rattle.pg_plan.proofs.Ranges.{read_is_plan}
use Rattle.pg_plan.proofs.laws.what_is_read_is_a_plan.Goals as goal

pub returns : goal.returns
returns c = read_is_plan
