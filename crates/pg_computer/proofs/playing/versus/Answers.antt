use Rattle.std.proofs.Common.{Result, refl, subst}
use Rattle.std.specs.Prelude.{option_copied}
use Rattle.pg_files.specs.GameFile.{Entry as GameEntry}
use Rattle.pg_playing.proofs.Runs.{plays_halted, plays_runs, table_gives, table_quiet}
use Rattle.pg_computer.proofs.Common.{Does, Game, Halt, err_from_is_err_and, turned_to}
use Rattle.pg_computer.specs.Versus.{PlaysVersus, Versus}
use Rattle.pg_computer.proofs.playing.versus.Goals as goal

pub returns-in_err-said-clause-ran : goal.returns-in_err-said-clause-ran
returns-in_err-said-clause-ran g c =
    let p = err_from_is_err_and c.from_residual.result c.from_residual.ensures.1 in
    let asked = c.args.order in
    let brings = g.S.Finder.brings c.args.finder.now in
    let path = option_copied asked.record in
    rw (p.1, p.2)
    (plays_halted (λ (h : Game). PlaysVersus brings asked.budget asked.look asked.side
    (turned_to h asked.turn) path)
    (λ (read : Result GameEntry Halt). Versus brings asked.budget asked.look asked.side asked.turn
    read path) asked.game.now
    (g.F.Files.told c.args.files.now) (g.F.Files.told c.open_game.new.files)
    c.open_game.ensures.kept.held (g.C.Console.told c.args.console.now) c.in_err-said.field-0.0
    c.in_err-said.ensures.opened)

pub returns-clause-ran : goal.returns-clause-ran
returns-clause-ran g c =
    let asked = c.args.order in
    let brings = g.S.Finder.brings c.args.finder.now in
    let path = option_copied asked.record in
    plays_runs (λ (h : Game). PlaysVersus brings asked.budget asked.look asked.side
    (turned_to h asked.turn) path)
    (λ (read : Result GameEntry Halt). Versus brings asked.budget asked.look asked.side asked.turn
    read path) asked.game.now
    (g.F.Files.told c.args.files.now) (g.F.Files.told c.open_game.new.files)
    c.open_game.ensures.kept.held c.in_ok-said.said (g.F.Files.told c.play_game.new.files)
    (g.C.Console.told c.args.console.now) (g.C.Console.told c.play_game.new.console)
    c.play_game.result (λ done end plays. (c.in_ok-said.said, refl, plays))
    c.in_ok-said.ensures.opened
    (subst (λ (k : Game). Does (PlaysVersus brings asked.budget asked.look asked.side k path)
    (g.F.Files.told c.open_game.new.files) (g.F.Files.told c.play_game.new.files)
    (g.C.Console.told c.args.console.now) (g.C.Console.told c.play_game.new.console)
    c.play_game.result) c.turned_to-game.ensures c.play_game.ensures.played)

pub returns-clause-quiet : goal.returns-clause-quiet
returns-clause-quiet g c = table_quiet (g.C.Console.told c.args.console.now)
    (g.C.Console.told c.play_game.new.console) c.play_game.result c.play_game.ensures.gives

pub returns-clause-gives : goal.returns-clause-gives
returns-clause-gives g c = table_gives c.play_game.result c.play_game.ensures.gives
