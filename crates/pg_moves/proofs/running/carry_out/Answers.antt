use Rattle.pg_moves.proofs.Common.{err_from_is_err_and}
use Rattle.pg_moves.proofs.Told.{halts_read, tells_read}
use Rattle.pg_settle.specs.JsonLines.{json_name}
use Rattle.pg_moves.proofs.running.carry_out.Goals as goal

pub returns-in_err-game-clause-ran : goal.returns-in_err-game-clause-ran
returns-in_err-game-clause-ran g c =
    let p = err_from_is_err_and c.from_residual.result c.from_residual.ensures.1 in
    rw (p.1, p.2)
    (halts_read (g.S.Finder.brings c.args.finder.now) c.args.order.budget
    (json_name c.args.order.json c.args.order.game.now) c.args.order.game.now
    (g.F.Files.told c.args.files.now) (g.F.Files.told c.open_game.new.files)
    c.open_game.ensures.kept.held (g.C.Console.told c.args.console.now) c.in_err-game.field-0.0
    c.in_err-game.ensures.opened)

pub returns-clause-ran : goal.returns-clause-ran
returns-clause-ran g c = tells_read (g.S.Finder.brings c.args.finder.now) c.args.order.budget
    (json_name c.args.order.json c.args.order.game.now) c.args.order.game.now
    (g.F.Files.told c.args.files.now) (g.F.Files.told c.open_game.new.files)
    c.open_game.ensures.kept.held c.in_ok-game.game (g.C.Console.told c.args.console.now)
    (g.C.Console.told c.tell_moves.new.console) c.tell_moves.result c.in_ok-game.ensures.opened
    c.tell_moves.ensures.told
