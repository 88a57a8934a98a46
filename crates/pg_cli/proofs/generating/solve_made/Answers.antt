use Rattle.std.proofs.Common.{ℕ, false, [], ◌∷◌, length, Option, refl, ◌∙◌, ap, subst}
use Rattle.pg_cli.proofs.Common.{err_from_is_err_and, Bytes, Memory, printed_certificate, Cert}
use Rattle.pg_cli.proofs.Common.{expanded_text, message_text, unknown_text, Message, stopped_first}
use Rattle.pg_cli.specs.Solving.{IsFound, SolvesGame, result_and_counts}
use Rattle.pg_cli.specs.declared.solving.TheConstants.{DEFAULT_POSITIONS}
use Rattle.pg_cli.proofs.Solves.{delivers_solution, stays_open}
use Rattle.pg_cli.proofs.generating.solve_made.Goals as goal
use Rattle.pg_results.specs.Results.{solution_text}

pub returns-in_err-message-clause-solved : goal.returns-in_err-message-clause-solved
returns-in_err-message-clause-solved g c =
    let p = err_from_is_err_and c.from_residual.result c.from_residual.ensures.1 in
    let played = c.args.game.now in
    rw (p.1, p.2)
    (stopped_first (SolvesGame false (result_and_counts played c.find.new.work) played
    c.args.certificate.now DEFAULT_POSITIONS c.find.new.work) (g.F.Files.told c.args.files.now)
    (g.F.Files.told c.args.files.now) (g.C.Console.told c.args.console.now)
    (g.C.Console.told c.args.console.now) Memory refl refl refl)

pub returns-in-Some-clause-solved : goal.returns-in-Some-clause-solved
returns-in-Some-clause-solved g c =
    let played = c.args.game.now in
    let work = c.find.new.work in
    let found = subst (λ (o : Option (Message × Cert)). IsFound played DEFAULT_POSITIONS work o)
    c.in-Some.is c.in_ok-message.ensures.found in
    let texts =
    ap (λ (t : Bytes). t ∷ expanded_text c.positions.result c.node_count.result ∷ []) found.3
    ∙ (ap (λ (n : ℕ). solution_text played found.0 ∷ expanded_text n c.node_count.result ∷ [])
    c.positions.ensures
    ∙ ap (λ (n : ℕ). solution_text played found.0 ∷ expanded_text (length work.positions) n ∷ [])
    c.node_count.ensures) in
    delivers_solution false (result_and_counts played work) played c.args.certificate.now
    DEFAULT_POSITIONS work found.0 c.in-Some.shown (printed_certificate c.in-Some.shown)
    (message_text c.in-Some.message ∷ expanded_text c.positions.result c.node_count.result ∷ [])
    (g.F.Files.told c.args.files.now) (g.F.Files.told c.deliver_solution.new.files)
    (g.C.Console.told c.args.console.now) (g.C.Console.told c.deliver_solution.new.console)
    c.deliver_solution.result found.1 found.2 refl texts c.deliver_solution.ensures.delivered

pub returns-in_err-say-in-None-clause-solved : goal.returns-in_err-say-in-None-clause-solved
returns-in_err-say-in-None-clause-solved g c =
    let p = err_from_is_err_and c.from_residual-in_err-say-in-None.result
    c.from_residual-in_err-say-in-None.ensures.1 in
    let played = c.args.game.now in
    rw (p.1, p.2)
    (stopped_first (SolvesGame false (result_and_counts played c.find.new.work) played
    c.args.certificate.now DEFAULT_POSITIONS c.find.new.work) (g.F.Files.told c.args.files.now)
    (g.F.Files.told c.args.files.now) (g.C.Console.told c.args.console.now)
    (g.C.Console.told c.say.new.console) c.in_err-say-in-None.field-0.0 refl
    c.in_err-say-in-None.ensures.said c.in_err-say-in-None.ensures.left)

pub returns-in_ok-say-in-None-clause-solved : goal.returns-in_ok-say-in-None-clause-solved
returns-in_ok-say-in-None-clause-solved g c =
    let played = c.args.game.now in
    let work = c.find.new.work in
    let unsolved = subst (λ (o : Option (Message × Cert)). IsFound played DEFAULT_POSITIONS work o)
    c.in-None.is c.in_ok-message.ensures.found in
    stays_open false (result_and_counts played c.find.new.work) played c.args.certificate.now
    DEFAULT_POSITIONS work (unknown_text c.budget_of.result) (g.F.Files.told c.args.files.now)
    (g.F.Files.told c.args.files.now) (g.C.Console.told c.args.console.now)
    (g.C.Console.told c.say.new.console) unsolved.0 unsolved.1
    (ap unknown_text c.budget_of.ensures.exact) refl c.in_ok-say-in-None.ensures.said
    c.in_ok-say-in-None.ensures.left
