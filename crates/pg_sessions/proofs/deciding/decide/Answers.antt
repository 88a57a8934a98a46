use Rattle.std.proofs.Common.{Option, subst, sym, ◌∙◌}
use Rattle.std.specs.Prelude.{IfSome}
use Rattle.pg_sessions.proofs.Common.{IsValid, Cert, budget}
use Rattle.pg_sessions.proofs.Values.{certificate-known, known-from}
use Rattle.pg_sessions.proofs.deciding.decide.Goals as goal

pub returns-clause-known : goal.returns-clause-known
returns-clause-known c =
    let told = c.in_ok-solution.ensures in
    known-from c.args.game.now (budget c.args.game.now c.args.positions) c.solve.new.work.positions
    c.in_ok-solution.solution c.in-Some.known told.answer told.claims told.valid told.limits
    told.shown (sym c.known_by.ensures ∙ c.in-Some.is)

pub returns-clause-solved : goal.returns-clause-solved
returns-clause-solved c =
    let g = c.args.game.now in
    let told = c.in_ok-solution.ensures in
    let own = certificate-known g.turn c.in_ok-solution.solution c.in-Some.known
    (sym c.known_by.ensures ∙ c.in-Some.is) in
    record {
      solution = c.in_ok-solution.solution;
      work = c.solve.new.work;
      own = own;
      holds = told.answer;
      valid = subst (λ (o : Option Cert). IfSome o (IsValid g)) own told.valid;
      last = told.last;
      left = c.solve.ensures.work;
      shown = told.shown;
    }
