use Rattle.std.proofs.Common.{false, Option, Some, None, Ok, Err, sym, subst}
use Rattle.pg_cli.proofs.Common.{err_from_is_err_and, Bytes, Game, text, Command, Gen}
use Rattle.pg_cli.proofs.Common.{delivers_then}
use Rattle.std.specs.Borrow.{Bor}
use Rattle.pg_cli.specs.Commands.{LeavesWork, Quiets, built}
use Rattle.pg_cli.specs.Generating.{IsMadeOf, game_file, size_texts}
use Rattle.pg_cli.specs.Run.{Carries}
use Rattle.pg_cli.specs.Solving.{SolvesGame, result_and_counts}
use Rattle.pg_cli.specs.declared.solving.TheConstants.{DEFAULT_POSITIONS}
use Rattle.pg_cli.proofs.Making.{carries_made, of_built, quiet_then, stores_halted, work_left}
use Rattle.pg_cli.proofs.Runs.{carries_memory}
use Rattle.pg_cli.proofs.generating.generate.Goals as goal

pub returns-in_err-made-clause-ran : goal.returns-in_err-made-clause-ran
returns-in_err-made-clause-ran g c =
    let p = err_from_is_err_and c.from_residual.result c.from_residual.ensures.1 in
    rw (p.1, p.2)
    (carries_memory (g.F.Files.told c.args.files.now) (g.C.Console.told c.args.console.now)
    (built (Gen c.args.which c.args.game.now (text c.args.certificate))) c.args.work.now)

pub returns-in_err-status-clause-ran : goal.returns-in_err-status-clause-ran
returns-in_err-status-clause-ran g c =
    let p = err_from_is_err_and c.from_residual-in_err-status.result
    c.from_residual-in_err-status.ensures.1 in
    let made = c.in-Some.made in
    let files = g.F.Files.told c.args.files.now in
    let files' = g.F.Files.told c.deliver_game.new.files in
    let before = g.C.Console.told c.args.console.now in
    let after = g.C.Console.told c.deliver_game.new.console in
    let is =
    subst (λ (o : Option Game). IsMadeOf c.args.which o) c.in-Some.is c.in_ok-made.ensures in
    let name = text c.args.certificate in
    rw (p.1, p.2)
    (carries_made c.args.which c.args.game.now name made c.args.work.now files files' before after
    (Err c.in_err-status.field-0.0) is
    (stores_halted c.args.which c.args.game.now name made c.args.work.now files files' before after
    c.in_err-status.field-0.0 c.in_err-status.ensures.delivered))

pub returns-in-None-clause-ran : goal.returns-in-None-clause-ran
returns-in-None-clause-ran g c =
    let made = c.in-Some.made in
    let files = g.F.Files.told c.args.files.now in
    let files' = g.F.Files.told c.deliver_game.new.files in
    let before = g.C.Console.told c.args.console.now in
    let after = g.C.Console.told c.deliver_game.new.console in
    let is =
    subst (λ (o : Option Game). IsMadeOf c.args.which o) c.in-Some.is c.in_ok-made.ensures in
    subst
    (λ (o : Option (Bor Bytes)). Carries (built (Gen c.args.which c.args.game.now (text o)))
    c.args.work.now files files' before after (Ok c.in_ok-status.status)) (sym c.in-None.is)
    (carries_made c.args.which c.args.game.now None made c.args.work.now files files' before after
    (Ok c.in_ok-status.status) is c.in_ok-status.ensures.delivered)

pub returns-clause-ran : goal.returns-clause-ran
returns-clause-ran g c =
    let made = c.in-Some.made in
    let work = c.solve_made.new.work in
    let certificate = c.in-Some-certificate.certificate.now in
    let files = g.F.Files.told c.args.files.now in
    let mid = g.F.Files.told c.deliver_game.new.files in
    let files' = g.F.Files.told c.solve_made.new.files in
    let before = g.C.Console.told c.args.console.now in
    let between = g.C.Console.told c.deliver_game.new.console in
    let after = g.C.Console.told c.solve_made.new.console in
    let is =
    subst (λ (o : Option Game). IsMadeOf c.args.which o) c.in-Some.is c.in_ok-made.ensures in
    subst
    (λ (o : Option (Bor Bytes)). Carries (built (Gen c.args.which c.args.game.now (text o))) work
    files files' before after c.solve_made.result) (sym c.in-Some-certificate.is)
    (carries_made c.args.which c.args.game.now
    (Some certificate) made work files files' before after c.solve_made.result is
    (delivers_then
    (SolvesGame false (result_and_counts made work) made certificate DEFAULT_POSITIONS work)
    (game_file c.args.game.now made) (size_texts made) files mid files' before between after
    c.solve_made.result _ c.in_ok-status.ensures.delivered c.solve_made.ensures.solved))

pub returns-clause-quiet : goal.returns-clause-quiet
returns-clause-quiet g c =
    let made = c.in-Some.made in
    let certificate = c.in-Some-certificate.certificate.now in
    let before = g.C.Console.told c.args.console.now in
    let between = g.C.Console.told c.deliver_game.new.console in
    let after = g.C.Console.told c.solve_made.new.console in
    let is =
    subst (λ (o : Option Game). IsMadeOf c.args.which o) c.in-Some.is c.in_ok-made.ensures in
    subst
    (λ (o : Option (Bor Bytes)). Quiets (built (Gen c.args.which c.args.game.now (text o))) before
    after c.solve_made.result) (sym c.in-Some-certificate.is)
    (of_built c.args.which c.args.game.now (Some certificate)
    (λ (command : Option Command). Quiets command before after c.solve_made.result) is.0
    (quiet_then c.args.which c.args.game.now certificate made before between after
    c.solve_made.result is.1 c.in_ok-status.ensures.said c.solve_made.ensures.quiet
    c.solve_made.ensures.halts))

pub returns-clause-work : goal.returns-clause-work
returns-clause-work g c =
    let told = (g.F.Files.told c.args.files.now).held in
    let made = c.in-Some.made in
    let certificate = c.in-Some-certificate.certificate.now in
    let is =
    subst (λ (o : Option Game). IsMadeOf c.args.which o) c.in-Some.is c.in_ok-made.ensures in
    subst
    (λ (o : Option (Bor Bytes)). LeavesWork told (built (Gen c.args.which c.args.game.now (text o)))
    c.args.work.now c.solve_made.new.work) (sym c.in-Some-certificate.is)
    (of_built c.args.which c.args.game.now (Some certificate) (λ (command : Option Command).
    LeavesWork told command c.args.work.now c.solve_made.new.work) is.0
    (work_left c.args.which c.args.game.now certificate made c.args.work.now c.solve_made.new.work
    is.1 c.solve_made.ensures.untouched c.solve_made.ensures.work told))
