use Rattle.std.specs.Prelude.{option_copied}
use Rattle.std.proofs.Common.{subst}
use Rattle.pg_duel.proofs.Common.{Game, err_from_is_err_and}
use Rattle.pg_duel.specs.Dueling.{PlaysBy, RefusesBy, RunsOn}
use Rattle.pg_duel.proofs.Runs.{duel_halted, duel_runs, read_gives}
use Rattle.pg_duel.proofs.playing.duel.Goals as goal

pub returns-in_err-said-clause-ran : goal.returns-in_err-said-clause-ran
returns-in_err-said-clause-ran g c =
    let p = err_from_is_err_and c.from_residual.result c.from_residual.ensures.1 in
    let asked = c.args.challenge in
    rw (p.1, p.2)
    (duel_halted asked.look asked.turn asked.side asked.game.now asked.certificate.now
    (option_copied asked.record)
    (g.F.Files.told c.args.files.now) (g.F.Files.told c.open_both.new.files)
    c.open_both.ensures.kept.held (g.C.Console.told c.args.console.now)
    c.in_err-said.field-0.0 c.in_err-said.ensures.opened)

pub returns-clause-ran : goal.returns-clause-ran
returns-clause-ran g c =
    let asked = c.args.challenge in
    duel_runs asked.look asked.turn asked.side asked.game.now asked.certificate.now
    (option_copied asked.record)
    (g.F.Files.told c.args.files.now) (g.F.Files.told c.open_both.new.files)
    c.open_both.ensures.kept.held c.in_ok-said.said c.in_ok-said.evidence
    (g.F.Files.told c.play_by.new.files)
    (g.C.Console.told c.args.console.now) (g.C.Console.told c.play_by.new.console)
    c.play_by.result c.in_ok-said.ensures.opened
    (subst (λ (k : Game). RunsOn (RefusesBy asked.side k c.in_ok-said.evidence)
    (PlaysBy asked.look asked.side k c.in_ok-said.evidence (option_copied asked.record))
    (g.F.Files.told c.open_both.new.files) (g.F.Files.told c.play_by.new.files)
    (g.C.Console.told c.args.console.now) (g.C.Console.told c.play_by.new.console)
    c.play_by.result) c.turned_to-game.ensures c.play_by.ensures.played)

pub returns-in_err-said-clause-gives : goal.returns-in_err-said-clause-gives
returns-in_err-said-clause-gives g c =
    let p = err_from_is_err_and c.from_residual.result c.from_residual.ensures.1 in
    rw (p.1, p.2) (read_gives _ c.in_err-said.ensures.halts)
