use Rattle.std.proofs.Common.{[]}
use Rattle.pg_evidence.proofs.arriving.Arriving.begin.Goals as goal

pub returns-clause-ready : goal.returns-clause-ready
returns-clause-ready c = record {
  text = [];
  arrived = record { gathered = c.new.ensures; kept = c.new-2.ensures };
}
