use Rattle.pg_plain.proofs.NearLines.{leads-on}
use Rattle.pg_plain.proofs.threats.+leads_to_line.Goals as goal

pub returns-then-is_forcing : goal.returns-then-is_forcing
returns-then-is_forcing t c = leads-on c.args.g.now c.args.p.now c.after.result
    c.after-then-is_forcing.result c.args.side c.args.points.now c.leads_to_line.result
    c.in-len2-up.len_at_least (c.is_forcing.ensures.forcing.0 c.if-is_forcing.true) c.after.ensures
    c.after-then-is_forcing.ensures c.leads_to_line.ensures
