use Rattle.std.proofs.Common.{inl, refl}
use Rattle.std.proofs.lemmas.Result.{err_from_is_err_and}
use Rattle.pg_cli.proofs.Solves.{carries_solve, game_is_held, halted_solve, leaves_search}
use Rattle.pg_cli.specs.Commands.{IsGameHeld}
use Rattle.pg_cli.proofs.solving.solve.Goals as goal

pub returns-in_err-game-clause-ran : goal.returns-in_err-game-clause-ran
returns-in_err-game-clause-ran g c =
    let p = err_from_is_err_and c.from_residual.result c.from_residual.ensures.1 in
    rw (p.1, p.2)
    (halted_solve c.args.options.images c.args.game.now c.args.certificate.now
    c.args.options.positions _ (g.F.Files.told c.args.files.now)
    (g.F.Files.told c.open_game.new.files) (g.C.Console.told c.args.console.now)
    c.in_err-game.field-0.0 c.open_game.ensures.kept.held c.in_err-game.ensures.opened)

pub returns-clause-ran : goal.returns-clause-ran
returns-clause-ran g c = carries_solve c.args.options.images c.args.game.now c.args.certificate.now
    c.args.options.positions c.in_ok-game.game c.solve_game.new.work
    (g.F.Files.told c.args.files.now) (g.F.Files.told c.open_game.new.files)
    (g.F.Files.told c.solve_game.new.files) (g.C.Console.told c.args.console.now)
    (g.C.Console.told c.solve_game.new.console) c.solve_game.result c.open_game.ensures.kept.held
    c.in_ok-game.ensures.opened c.solve_game.ensures.solved

pub returns-in_err-game-clause-work : goal.returns-in_err-game-clause-work
returns-in_err-game-clause-work g c = inl refl

pub returns-clause-work : goal.returns-clause-work
returns-clause-work g c =
    let told = (g.F.Files.told c.args.files.now).held in
    let game = c.in_ok-game.game in
    leaves_search (IsGameHeld told c.args.game.now) game c.args.options.positions c.args.work.now
    c.solve_game.new.work (game_is_held told c.args.game.now game c.in_ok-game.ensures.opened)
    c.solve_game.ensures.work c.solve_game.ensures.untouched
