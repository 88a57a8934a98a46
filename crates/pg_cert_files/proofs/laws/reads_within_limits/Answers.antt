use Rattle.pg_cert_files.proofs.CertLimits.{read_within}
use Rattle.pg_cert_files.proofs.laws.reads_within_limits.Goals as goal

pub returns : goal.returns
returns c = λ text cert e. read_within text cert e
