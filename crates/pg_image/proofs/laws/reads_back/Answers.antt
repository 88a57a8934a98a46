use Rattle.pg_image.proofs.Back.{reads_back}
use Rattle.pg_image.proofs.laws.reads_back.Goals as goal

pub returns : goal.returns
returns c = reads_back
