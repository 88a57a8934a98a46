use Rattle.std.proofs.Common.{arith}
use Rattle.pg_check.proofs.RoundLaws.{leads-three}
use Rattle.pg_check.proofs.threats.leads_to_line.Goals as goal

pub returns-in-len3 : goal.returns-in-len3
returns-in-len3 c =
    let three =
    leads-three c.args.g.now c.args.p.now c.args.side c.args.points.now (omega arith) in (
      λ on. three.1 (c.fills_third.ensures.0 on),
      λ leads. c.fills_third.ensures.1 (three.0 leads),
    )
