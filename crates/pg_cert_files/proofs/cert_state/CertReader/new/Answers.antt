use Rattle.std.proofs.Common.{refl}
use Rattle.pg_cert_files.specs.CertFile.{seen}
use Rattle.pg_cert_files.specs.Lines.{cut}
use Rattle.pg_cert_files.proofs.cert_state.CertReader.new.Goals as goal

pub returns-clause-parts : goal.returns-clause-parts
unfolding cut seen
returns-clause-parts c = refl
