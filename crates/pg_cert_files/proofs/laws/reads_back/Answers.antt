use Rattle.pg_cert_files.proofs.Back as back
use Rattle.pg_cert_files.proofs.laws.reads_back.Goals as goal

pub returns : goal.returns
returns c = λ cert within few. back.reads_back cert within few
