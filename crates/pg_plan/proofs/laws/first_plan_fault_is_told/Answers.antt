use Rattle.pg_plan.proofs.FirstFault.{first_told}
use Rattle.pg_plan.proofs.laws.first_plan_fault_is_told.Goals as goal

pub returns : goal.returns
returns c text fault number = first_told text fault number
