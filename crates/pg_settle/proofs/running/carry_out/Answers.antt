use Rattle.pg_settle.proofs.Common.{err_from_is_err_and}
use Rattle.pg_settle.proofs.Settles.{carries_settle, halted_settle}
use Rattle.pg_settle.specs.Settling.{form_of}
use Rattle.pg_settle.proofs.running.carry_out.Goals as goal

pub returns-in_err-game-clause-ran : goal.returns-in_err-game-clause-ran
returns-in_err-game-clause-ran g c =
    let p = err_from_is_err_and c.from_residual.result c.from_residual.ensures.1 in
    rw (p.1, p.2)
    (halted_settle (g.S.Finder.brings c.args.finder.now)
    (form_of c.args.order.images c.args.order.json c.args.order.game.now) c.args.order.game.now
    c.args.order.certificate.now c.args.order.budget (g.F.Files.told c.args.files.now)
    (g.F.Files.told c.open_game.new.files) (g.C.Console.told c.args.console.now)
    c.in_err-game.field-0.0 c.open_game.ensures.kept.held c.in_err-game.ensures.opened)

pub returns-clause-ran : goal.returns-clause-ran
returns-clause-ran g c = carries_settle (g.S.Finder.brings c.args.finder.now)
    (form_of c.args.order.images c.args.order.json c.args.order.game.now) c.args.order.game.now
    c.args.order.certificate.now c.args.order.budget c.in_ok-game.game
    (g.F.Files.told c.args.files.now) (g.F.Files.told c.open_game.new.files)
    (g.F.Files.told c.settle_game.new.files) (g.C.Console.told c.args.console.now)
    (g.C.Console.told c.settle_game.new.console) c.settle_game.result c.open_game.ensures.kept.held
    c.in_ok-game.ensures.opened c.settle_game.ensures.settled
