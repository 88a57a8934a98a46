use Rattle.pg_cert_files.proofs.FirstFaults.{first_fault}
use Rattle.pg_cert_files.proofs.laws.names_the_first_fault.Goals as goal

pub returns : goal.returns
returns c = λ text fault number e. first_fault text fault number e
