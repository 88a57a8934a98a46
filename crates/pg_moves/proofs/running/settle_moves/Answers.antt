use Rattle.pg_results.proofs.Causes.{cause_early}
use Rattle.pg_results.proofs.GameRuns.{acted_done, acted_early, cause_done, finishes}
use Rattle.pg_results.proofs.GameRuns.{silent_done, silent_early, status_done, status_early}
use Rattle.pg_talk.specs.Opening.{IsGameLacking}
use Rattle.pg_settle.specs.JsonLines.{json_name}
use Rattle.pg_moves.specs.MoveRuns.{ActsOn}
use Rattle.pg_moves.proofs.running.settle_moves.Goals as goal

pub returns-in-Ok-clause-ran : goal.returns-in-Ok-clause-ran
returns-in-Ok-clause-ran g c = acted_done
    (ActsOn (g.S.Finder.brings c.args.finder.now) c.args.order.budget
    (json_name c.args.order.json c.args.order.game.now) c.args.order.game.now)
    c.args.order.game.now (g.F.Files.told c.args.files.now)
    (g.F.Files.told c.carry_out.new.files) (g.C.Console.told c.args.console.now)
    (g.C.Console.told c.carry_out.new.console) c.in-Ok.status
    (finishes c.in-Ok.status c.in-Ok.ensures.gives)
    c.in-Ok.ensures.ran

pub returns-in-Ok-clause-silent : goal.returns-in-Ok-clause-silent
returns-in-Ok-clause-silent g c = silent_done
    (g.C.Console.told c.args.console.now) (g.C.Console.told c.carry_out.new.console)
    c.in-Ok.status c.in-Ok.ensures.gives

pub returns-in-Ok-clause-statuses : goal.returns-in-Ok-clause-statuses
returns-in-Ok-clause-statuses g c =
    status_done c.in-Ok.status c.in-Ok.ensures.gives

pub returns-in-Ok-clause-causes : goal.returns-in-Ok-clause-causes
returns-in-Ok-clause-causes g c =
    cause_done (IsGameLacking (g.F.Files.told c.args.files.now).held c.args.order.game.now)
    (g.F.Files.told c.args.files.now)
    (g.F.Files.told c.carry_out.new.files) (g.C.Console.told c.args.console.now)
    (g.C.Console.told c.carry_out.new.console) c.in-Ok.status c.in-Ok.ensures.causes
    c.in-Ok.ensures.gives

pub returns-in-Err-clause-ran : goal.returns-in-Err-clause-ran
returns-in-Err-clause-ran g c = acted_early
    (ActsOn (g.S.Finder.brings c.args.finder.now) c.args.order.budget
    (json_name c.args.order.json c.args.order.game.now) c.args.order.game.now)
    c.args.order.game.now (g.F.Files.told c.args.files.now)
    (g.F.Files.told c.carry_out.new.files) (g.C.Console.told c.args.console.now)
    (g.C.Console.told c.carry_out.new.console) (g.C.Console.told c.end_early.new.console)
    c.in-Err.halt c.end_early.result c.in-Err.ensures.ran c.end_early.ensures

pub returns-in-Err-clause-silent : goal.returns-in-Err-clause-silent
returns-in-Err-clause-silent g c = silent_early
    (g.C.Console.told c.args.console.now) (g.C.Console.told c.carry_out.new.console)
    (g.C.Console.told c.end_early.new.console) c.in-Err.halt c.end_early.result
    c.in-Err.ensures.quiet c.end_early.ensures

pub returns-in-Err-clause-statuses : goal.returns-in-Err-clause-statuses
returns-in-Err-clause-statuses g c = status_early
    (g.C.Console.told c.carry_out.new.console) (g.C.Console.told c.end_early.new.console)
    c.in-Err.halt c.end_early.result c.in-Err.ensures.gives c.end_early.ensures

pub returns-in-Err-clause-causes : goal.returns-in-Err-clause-causes
returns-in-Err-clause-causes g c =
    cause_early (IsGameLacking (g.F.Files.told c.args.files.now).held c.args.order.game.now)
    (g.F.Files.told c.args.files.now) (g.F.Files.told c.carry_out.new.files)
    (g.C.Console.told c.args.console.now) (g.C.Console.told c.carry_out.new.console)
    (g.C.Console.told c.end_early.new.console) c.in-Err.halt c.end_early.result
    c.in-Err.ensures.causes c.end_early.ensures
