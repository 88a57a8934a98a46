use Rattle.std.proofs.Common.{sym, ◌∙◌}
use Rattle.pg_plain.proofs.ThreatSearches.{not-going, search-finds}
use Rattle.pg_plain.proofs.threat_search.has_threat_line.Goals as goal

pub returns-then-is_going : goal.returns-then-is_going
returns-then-is_going c = search-finds c.args.g.now c.args.p.now c.args.depth c.is_going.result
    c.leads_within.result c.is_going.ensures c.if-is_going.true c.leads_within.ensures

pub returns-else-is_going : goal.returns-else-is_going
returns-else-is_going c = c.if-is_going.false
    ∙ sym (not-going c.args.g.now c.args.p.now c.args.depth c.is_going.result c.is_going.ensures
    c.if-is_going.false)
