use Rattle.pg_family_files.proofs.SpanCertWithin.{read_within}
use Rattle.pg_family_files.proofs.cert_laws.what_is_read_is_within_ranges.Goals as goal

pub returns : goal.returns
returns c = read_within
