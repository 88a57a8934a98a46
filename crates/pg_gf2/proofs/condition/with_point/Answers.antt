use Rattle.pg_exchange.proofs.Tests.{with_point}
use Rattle.pg_gf2.proofs.condition.with_point.Goals as goal

pub returns : goal.returns
returns c = with_point c.args.set.now c.put.new.self c.args.v c.put.ensures
