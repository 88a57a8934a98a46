use Rattle.std.proofs.Common.{[]}
use Rattle.pg_drawing.proofs.Coming.{come_begun}
use Rattle.pg_drawing.proofs.incoming.Incoming.begin.Goals as goal

pub returns-clause-come : goal.returns-clause-come
returns-clause-come c = come_begun c.new.result c.new.ensures

pub returns-clause-ready : goal.returns-clause-ready
returns-clause-ready c = record { text = []; come = come_begun c.new.result c.new.ensures }
