use Rattle.pg_family_files.proofs.SpanCertBack.{reads_back}
use Rattle.pg_family_files.proofs.cert_laws.printed_span_cert_is_read.Goals as goal

pub returns : goal.returns
returns c = reads_back
