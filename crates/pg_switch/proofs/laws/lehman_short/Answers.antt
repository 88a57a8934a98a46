use Rattle.pg_switch.proofs.SwitchLaws.{Forces-trees}
use Rattle.pg_switch.proofs.laws.lehman_short.Goals as goal

pub returns : goal.returns
returns c = Forces-trees
