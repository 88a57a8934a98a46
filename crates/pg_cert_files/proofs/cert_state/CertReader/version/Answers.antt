use Rattle.pg_cert_files.proofs.TextVersion.{version_is}
use Rattle.pg_cert_files.proofs.cert_state.CertReader.version.Goals as goal

pub returns : goal.returns
returns c = λ text cert fed e. version_is c.args.self.now text cert fed e
