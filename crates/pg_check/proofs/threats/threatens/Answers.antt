use Rattle.std.proofs.Common.{◌∙◌, sym, ap}
use Rattle.pg_check.proofs.Common.{false≢true, list_any, FinSet, insert, nat_cmp, is_filled}
use Rattle.pg_check.proofs.Common.{lines_of}
use Rattle.pg_check.proofs.ThreatTests.{threatens-off, threatens-is}
use Rattle.pg_check.proofs.threats.threatens.Goals as goal

pub returns-then-not-is_attack-clause-threat : goal.returns-then-not-is_attack-clause-threat
returns-then-not-is_attack-clause-threat c = threatens-off c.args.g.now c.args.p.now c.args.side
    c.args.u (λ at. false≢true (sym c.if-not-is_attack.true ∙ c.is_attack.ensures.attack.1 at))

pub returns-clause-threat : goal.returns-clause-threat
returns-clause-threat c = c.fills_some_from.ensures
    ∙ ap (λ (s : FinSet nat_cmp). list_any (is_filled s) (lines_of c.args.g.now))
    (c.put.ensures ∙ ap (λ (s : FinSet nat_cmp). insert s c.args.u) c.points_of.ensures)
    ∙ threatens-is c.args.g.now c.args.p.now c.args.side c.args.u c.requires
    (c.is_attack.ensures.attack.0 c.if-not-is_attack.false)
