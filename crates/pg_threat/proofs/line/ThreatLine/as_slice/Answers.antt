use Rattle.std.proofs.Common.{sym, arith}
use Rattle.pg_threat.proofs.Common.{take_all}
use Rattle.pg_threat.proofs.line.ThreatLine.as_slice.Goals as goal

pub returns-then-self-gt7-clause-points : goal.returns-then-self-gt7-clause-points
returns-then-self-gt7-clause-points c = sym
    (take_all c.args.self.now.len c.args.self.now.points (omega (arith, c.if-self-gt7.true)))
