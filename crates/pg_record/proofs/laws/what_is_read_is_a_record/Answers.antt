use Rattle.pg_record.proofs.Allowed.{read-allowed}
use Rattle.pg_record.proofs.laws.what_is_read_is_a_record.Goals as goal

pub returns : goal.returns
returns c = read-allowed
