use Rattle.pg_record.proofs.FirstFault.{first-told}
use Rattle.pg_record.proofs.laws.first_record_fault_is_told.Goals as goal

pub returns : goal.returns
returns c g text fault number = first-told g text fault number
