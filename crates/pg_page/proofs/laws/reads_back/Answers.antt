use Rattle.pg_page.proofs.Reading.{page-read}
use Rattle.pg_page.proofs.laws.reads_back.Goals as goal

pub returns : goal.returns
returns c = λ p. page-read p
