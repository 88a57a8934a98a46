use Rattle.pg_record.proofs.ReadBack.{reads-back}
use Rattle.pg_record.proofs.laws.printed_record_is_read.Goals as goal

pub returns : goal.returns
returns c = reads-back
