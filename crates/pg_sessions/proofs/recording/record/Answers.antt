use Rattle.std.proofs.lemmas.Result.{err_from_is_err_and}
use Rattle.pg_sessions.proofs.Records.{record_halted, record_runs, session_gives, session_quiet}
use Rattle.pg_sessions.proofs.recording.record.Goals as goal

pub returns-in_err-game-clause-ran : goal.returns-in_err-game-clause-ran
returns-in_err-game-clause-ran g c =
    let p = err_from_is_err_and c.from_residual.result c.from_residual.ensures.1 in
    rw (p.1, p.2)
    (record_halted c.args.game.now c.args.name.now (g.F.Files.told c.args.files.now)
    (g.F.Files.told c.open_game.new.files) c.open_game.ensures.kept.held
    (g.C.Console.told c.args.console.now) c.in_err-game.field-0.0 c.in_err-game.ensures.opened)

pub returns-clause-ran : goal.returns-clause-ran
returns-clause-ran g c = record_runs c.args.game.now c.args.name.now
    (g.F.Files.told c.args.files.now) (g.F.Files.told c.open_game.new.files)
    c.open_game.ensures.kept.held c.in_ok-game.game (g.F.Files.told c.record_game.new.files)
    (g.C.Console.told c.args.console.now) (g.C.Console.told c.record_game.new.console)
    c.record_game.result c.in_ok-game.ensures.opened c.record_game.ensures.recorded

pub returns-clause-quiet : goal.returns-clause-quiet
returns-clause-quiet g c = session_quiet (g.C.Console.told c.args.console.now)
    (g.C.Console.told c.record_game.new.console) c.record_game.result c.record_game.ensures.gives

pub returns-clause-gives : goal.returns-clause-gives
returns-clause-gives g c = session_gives c.record_game.result c.record_game.ensures.gives
