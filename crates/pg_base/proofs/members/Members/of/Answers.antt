use Rattle.pg_base.proofs.Onward.{from_zero}
use Rattle.pg_base.proofs.members.Members.of.Goals as goal

pub returns : goal.returns
returns c = from_zero c.args.set.now
