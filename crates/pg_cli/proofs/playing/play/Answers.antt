use Rattle.std.proofs.lemmas.Result.{err_from_is_err_and}
use Rattle.pg_cli.proofs.Runs.{carries_play, halted_play}
use Rattle.pg_cli.proofs.playing.play.Goals as goal

pub returns-in_err-game-clause-ran : goal.returns-in_err-game-clause-ran
returns-in_err-game-clause-ran g c =
    let p = err_from_is_err_and c.from_residual.result c.from_residual.ensures.1 in
    λ work. rw (p.1, p.2)
    (halted_play (g.F.Files.told c.args.files.now) (g.F.Files.told c.open_both.new.files)
    (g.C.Console.told c.args.console.now) c.open_both.ensures.kept.held c.args.game.now
    c.args.certificate.now work _ c.in_err-game.ensures.opened c.args.side)

pub returns-clause-ran : goal.returns-clause-ran
returns-clause-ran g c = λ work. carries_play (g.F.Files.told c.args.files.now)
    (g.F.Files.told c.open_both.new.files) c.args.game.now c.args.certificate.now
    (c.in_ok-game.game, c.in_ok-game.evidence) (g.C.Console.told c.args.console.now)
    (g.C.Console.told c.play_by.new.console) c.open_both.ensures.kept.held
    c.in_ok-game.ensures.opened c.args.side work c.play_by.result c.play_by.ensures.played
