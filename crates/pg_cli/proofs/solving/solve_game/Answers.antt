use Rattle.std.proofs.Common.{[], ◌∷◌, Option, refl, sym, ap, subst}
use Rattle.pg_cli.proofs.Common.{err_from_is_err_and, Bytes, Memory, Cert, message_text}
use Rattle.pg_cli.proofs.Common.{unknown_text, Message, budget, stopped_first}
use Rattle.pg_cli.specs.Solving.{IsFound, SolvesGame, result_alone}
use Rattle.pg_results.proofs.Differing.{solution_differs}
use Rattle.pg_cli.proofs.Solves.{delivers_solution, stays_open}
use Rattle.pg_cli.proofs.solving.solve_game.Goals as goal
use Rattle.pg_results.specs.Results.{IsFileOf}

pub returns-in_err-message-clause-solved : goal.returns-in_err-message-clause-solved
returns-in_err-message-clause-solved g c =
    let p = err_from_is_err_and c.from_residual.result c.from_residual.ensures.1 in
    let played = c.args.game.now in
    rw (p.1, p.2)
    (stopped_first
    (SolvesGame c.args.options.images (result_alone played) played c.args.certificate.now
    c.args.options.positions c.find.new.work) (g.F.Files.told c.args.files.now)
    (g.F.Files.told c.args.files.now) (g.C.Console.told c.args.console.now)
    (g.C.Console.told c.args.console.now) Memory refl refl refl)

pub print_solution-requires-clause-valid : goal.print_solution-requires-clause-valid
print_solution-requires-clause-valid g c =
    let found = subst (λ (o : Option (Message × Cert)). IsFound c.args.game.now
    c.args.options.positions c.find.new.work o) c.in-Some.is c.in_ok-message.ensures.found in
    found.1.valid

pub print_solution-requires-clause-limits : goal.print_solution-requires-clause-limits
print_solution-requires-clause-limits g c =
    let found = subst (λ (o : Option (Message × Cert)). IsFound c.args.game.now
    c.args.options.positions c.find.new.work o) c.in-Some.is c.in_ok-message.ensures.found in
    found.1.limits

pub print_solution-requires-clause-differ : goal.print_solution-requires-clause-differ
print_solution-requires-clause-differ g c =
    let played = c.args.game.now in
    let work = c.find.new.work in
    let found =
    subst (λ (o : Option (Message × Cert)). IsFound played c.args.options.positions work o)
    c.in-Some.is c.in_ok-message.ensures.found in
    solution_differs played (budget played c.args.options.positions) work.positions found.0
    c.in-Some.shown found.2.shown found.1.own

pub returns-in_err-text-in-Some-clause-solved : goal.returns-in_err-text-in-Some-clause-solved
returns-in_err-text-in-Some-clause-solved g c =
    let p = err_from_is_err_and c.from_residual-in_err-text-in-Some.result
    c.from_residual-in_err-text-in-Some.ensures.1 in
    let played = c.args.game.now in
    rw (p.1, p.2)
    (stopped_first
    (SolvesGame c.args.options.images (result_alone played) played c.args.certificate.now
    c.args.options.positions c.find.new.work) (g.F.Files.told c.args.files.now)
    (g.F.Files.told c.args.files.now) (g.C.Console.told c.args.console.now)
    (g.C.Console.told c.args.console.now) Memory refl refl refl)

pub returns-in_ok-text-in-Some-clause-solved : goal.returns-in_ok-text-in-Some-clause-solved
returns-in_ok-text-in-Some-clause-solved g c =
    let played = c.args.game.now in
    let work = c.find.new.work in
    let found =
    subst (λ (o : Option (Message × Cert)). IsFound played c.args.options.positions work o)
    c.in-Some.is c.in_ok-message.ensures.found in
    let stored = subst (λ (t : Bytes). IsFileOf c.args.options.images played c.in-Some.shown t)
    (sym c.deref.ensures.value) c.in_ok-text-in-Some.ensures in
    delivers_solution c.args.options.images (result_alone played) played c.args.certificate.now
    c.args.options.positions work found.0 c.in-Some.shown c.deref.result.now
    (message_text c.in-Some.message ∷ []) (g.F.Files.told c.args.files.now)
    (g.F.Files.told c.deliver.new.files) (g.C.Console.told c.args.console.now)
    (g.C.Console.told c.deliver.new.console) c.deliver.result found.1 found.2 stored
    (ap (λ (t : Bytes). t ∷ []) found.3) c.deliver.ensures.delivered

pub returns-in_err-say-in-None-clause-solved : goal.returns-in_err-say-in-None-clause-solved
returns-in_err-say-in-None-clause-solved g c =
    let p = err_from_is_err_and c.from_residual-in_err-say-in-None.result
    c.from_residual-in_err-say-in-None.ensures.1 in
    let played = c.args.game.now in
    rw (p.1, p.2)
    (stopped_first
    (SolvesGame c.args.options.images (result_alone played) played c.args.certificate.now
    c.args.options.positions c.find.new.work) (g.F.Files.told c.args.files.now)
    (g.F.Files.told c.args.files.now) (g.C.Console.told c.args.console.now)
    (g.C.Console.told c.say.new.console) c.in_err-say-in-None.field-0.0 refl
    c.in_err-say-in-None.ensures.said c.in_err-say-in-None.ensures.left)

pub returns-in_ok-say-in-None-clause-solved : goal.returns-in_ok-say-in-None-clause-solved
returns-in_ok-say-in-None-clause-solved g c =
    let played = c.args.game.now in
    let work = c.find.new.work in
    let unsolved =
    subst (λ (o : Option (Message × Cert)). IsFound played c.args.options.positions work o)
    c.in-None.is c.in_ok-message.ensures.found in
    stays_open c.args.options.images (result_alone played) played c.args.certificate.now
    c.args.options.positions work (unknown_text c.budget_of.result)
    (g.F.Files.told c.args.files.now) (g.F.Files.told c.args.files.now)
    (g.C.Console.told c.args.console.now) (g.C.Console.told c.say.new.console) unsolved.0 unsolved.1
    (ap unknown_text c.budget_of.ensures.exact) refl c.in_ok-say-in-None.ensures.said
    c.in_ok-say-in-None.ensures.left
