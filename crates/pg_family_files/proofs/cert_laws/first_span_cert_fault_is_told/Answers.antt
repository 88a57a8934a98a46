use Rattle.pg_family_files.proofs.SpanCertFirst.{first_told}
use Rattle.pg_family_files.proofs.cert_laws.first_span_cert_fault_is_told.Goals as goal

pub returns : goal.returns
returns c = first_told
