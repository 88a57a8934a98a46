use Rattle.std.proofs.Common.{◌↔◌, IfOk, IsTrue, subst, sym}
use Rattle.pg_settle.specs.Findings.{IsShowing}
use Rattle.pg_settle.specs.declared.finding.Finding.{Finding}
use Rattle.pg_settle.proofs.judging.is_showing.Goals as goal

pub returns-in-Certificate : goal.returns-in-Certificate
returns-in-Certificate c = subst
    (λ (f : Finding). IfOk c.shows.result
    (λ shown. IsTrue shown ↔ IsShowing c.args.game.now f)) (sym c.in-Certificate.is) c.shows.ensures
