use Rattle.pg_results.proofs.GameRuns.{acted_done, acted_early, silent_early}
use Rattle.pg_talk.specs.Opening.{IsGameLacking}
use Rattle.pg_splitting.proofs.Ends.{cause_done, cause_early, finishes, kept_done, kept_early}
use Rattle.pg_splitting.proofs.Ends.{silent_done, status_done, status_early}
use Rattle.pg_splitting.specs.SplitRuns.{SplitsAt}
use Rattle.pg_splitting.proofs.running.split_game.Goals as goal

pub returns-in-Ok-clause-ran : goal.returns-in-Ok-clause-ran
returns-in-Ok-clause-ran g c = acted_done
    (SplitsAt c.args.order.folder.now c.args.order.most (g.F.Files.told c.args.files.now)
    (g.F.Files.told c.carry_out.new.files) c.args.order.game.now)
    c.args.order.game.now (g.F.Files.told c.args.files.now)
    (g.F.Files.told c.carry_out.new.files) (g.C.Console.told c.args.console.now)
    (g.C.Console.told c.carry_out.new.console) c.in-Ok.status
    (finishes c.in-Ok.status c.in-Ok.ensures.gives) c.in-Ok.ensures.ran

pub returns-in-Ok-clause-silent : goal.returns-in-Ok-clause-silent
returns-in-Ok-clause-silent g c = silent_done
    (g.C.Console.told c.args.console.now) (g.C.Console.told c.carry_out.new.console)
    c.in-Ok.status c.in-Ok.ensures.gives

pub returns-in-Ok-clause-statuses : goal.returns-in-Ok-clause-statuses
returns-in-Ok-clause-statuses g c = status_done c.in-Ok.status c.in-Ok.ensures.gives

pub returns-in-Ok-clause-kept : goal.returns-in-Ok-clause-kept
returns-in-Ok-clause-kept g c = kept_done (g.F.Files.told c.args.files.now)
    (g.F.Files.told c.carry_out.new.files) c.in-Ok.status c.in-Ok.ensures.kept

pub returns-in-Ok-clause-causes : goal.returns-in-Ok-clause-causes
returns-in-Ok-clause-causes g c =
    cause_done (IsGameLacking (g.F.Files.told c.args.files.now).held c.args.order.game.now)
    (g.F.Files.told c.args.files.now) (g.F.Files.told c.carry_out.new.files)
    (g.C.Console.told c.args.console.now) (g.C.Console.told c.carry_out.new.console)
    c.in-Ok.status c.in-Ok.ensures.causes c.in-Ok.ensures.gives

pub returns-in-Err-clause-ran : goal.returns-in-Err-clause-ran
returns-in-Err-clause-ran g c = acted_early
    (SplitsAt c.args.order.folder.now c.args.order.most (g.F.Files.told c.args.files.now)
    (g.F.Files.told c.carry_out.new.files) c.args.order.game.now)
    c.args.order.game.now (g.F.Files.told c.args.files.now)
    (g.F.Files.told c.carry_out.new.files) (g.C.Console.told c.args.console.now)
    (g.C.Console.told c.carry_out.new.console) (g.C.Console.told c.end_early.new.console)
    c.in-Err.halt c.end_early.result c.in-Err.ensures.ran c.end_early.ensures

pub returns-in-Err-clause-silent : goal.returns-in-Err-clause-silent
returns-in-Err-clause-silent g c = silent_early
    (g.C.Console.told c.args.console.now) (g.C.Console.told c.carry_out.new.console)
    (g.C.Console.told c.end_early.new.console) c.in-Err.halt c.end_early.result
    c.in-Err.ensures.quiet c.end_early.ensures

pub returns-in-Err-clause-statuses : goal.returns-in-Err-clause-statuses
returns-in-Err-clause-statuses g c = status_early
    (g.C.Console.told c.carry_out.new.console) (g.C.Console.told c.end_early.new.console)
    c.in-Err.halt c.end_early.result c.in-Err.ensures.gives c.end_early.ensures

pub returns-in-Err-clause-kept : goal.returns-in-Err-clause-kept
returns-in-Err-clause-kept g c = kept_early (g.F.Files.told c.args.files.now)
    (g.F.Files.told c.carry_out.new.files) (g.C.Console.told c.carry_out.new.console)
    (g.C.Console.told c.end_early.new.console) c.in-Err.halt c.end_early.result
    c.in-Err.ensures.kept c.end_early.ensures

pub returns-in-Err-clause-causes : goal.returns-in-Err-clause-causes
returns-in-Err-clause-causes g c =
    cause_early (IsGameLacking (g.F.Files.told c.args.files.now).held c.args.order.game.now)
    (g.F.Files.told c.args.files.now) (g.F.Files.told c.carry_out.new.files)
    (g.C.Console.told c.args.console.now) (g.C.Console.told c.carry_out.new.console)
    (g.C.Console.told c.end_early.new.console) c.in-Err.halt c.end_early.result
    c.in-Err.ensures.causes c.end_early.ensures
