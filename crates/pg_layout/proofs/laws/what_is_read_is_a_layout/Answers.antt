use Rattle.pg_layout.proofs.Sound.{read_is_layout}
use Rattle.pg_layout.proofs.laws.what_is_read_is_a_layout.Goals as goal

pub returns : goal.returns
returns c = read_is_layout
