use Rattle.pg_switch.proofs.SwitchLaws.{Forces-cuts}
use Rattle.pg_switch.proofs.laws.lehman_cut.Goals as goal

pub returns : goal.returns
returns c = Forces-cuts
