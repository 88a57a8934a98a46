use Rattle.pg_plan.proofs.ReadBack.{reads_back}
use Rattle.pg_plan.proofs.laws.printed_plan_is_read.Goals as goal

pub returns : goal.returns
returns c = reads_back
