use Rattle.pg_image.proofs.Within.{read_within}
use Rattle.pg_image.proofs.laws.reads_within_limits.Goals as goal

pub returns : goal.returns
returns c = read_within
