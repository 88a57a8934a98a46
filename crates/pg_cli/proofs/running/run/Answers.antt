use Rattle.std.proofs.Common.{map, string_bytes}
use Rattle.pg_cli.specs.Commands.{IsLacking, asked}
use Rattle.pg_results.proofs.Causes.{cause_early}
use Rattle.pg_cli.proofs.Ending.{cause_done, meaningless_early, ran_done, ran_early}
use Rattle.pg_cli.proofs.Ending.{silent_done, silent_early, status_done, status_early}
use Rattle.pg_cli.proofs.Forced.{forced_ran}
use Rattle.pg_cli.proofs.InTime.{in_time_early}
use Rattle.pg_cli.proofs.running.run.Goals as goal

pub returns-in-Ok-clause-ran : goal.returns-in-Ok-clause-ran
returns-in-Ok-clause-ran g c = ran_done (asked (map string_bytes c.args.words.now))
    c.carry_out.new.work (g.F.Files.told c.args.files.now) (g.F.Files.told c.carry_out.new.files)
    (g.C.Console.told c.args.console.now) (g.C.Console.told c.carry_out.new.console) c.in-Ok.status
    c.in-Ok.ensures.ran c.in-Ok.ensures.gives

pub returns-in-Ok-clause-forced : goal.returns-in-Ok-clause-forced
returns-in-Ok-clause-forced g c =
    forced_ran c.announced_claims_are_forced.ensures (asked (map string_bytes c.args.words.now))
    c.carry_out.new.work (g.F.Files.told c.args.files.now) (g.F.Files.told c.carry_out.new.files)
    (g.C.Console.told c.args.console.now) (g.C.Console.told c.carry_out.new.console) c.in-Ok.status
    (ran_done (asked (map string_bytes c.args.words.now)) c.carry_out.new.work
    (g.F.Files.told c.args.files.now) (g.F.Files.told c.carry_out.new.files)
    (g.C.Console.told c.args.console.now) (g.C.Console.told c.carry_out.new.console) c.in-Ok.status
    c.in-Ok.ensures.ran c.in-Ok.ensures.gives)

pub returns-in-Ok-clause-silent : goal.returns-in-Ok-clause-silent
returns-in-Ok-clause-silent g c =
    silent_done (asked (map string_bytes c.args.words.now)) (g.C.Console.told c.args.console.now)
    (g.C.Console.told c.carry_out.new.console) c.in-Ok.status c.in-Ok.ensures.gives

pub returns-in-Ok-clause-statuses : goal.returns-in-Ok-clause-statuses
returns-in-Ok-clause-statuses g c =
    status_done (asked (map string_bytes c.args.words.now)) c.in-Ok.status c.in-Ok.ensures.gives

pub returns-in-Ok-clause-causes : goal.returns-in-Ok-clause-causes
returns-in-Ok-clause-causes g c = cause_done
    (IsLacking (g.F.Files.told c.args.files.now).held (asked (map string_bytes c.args.words.now)))
    (asked (map string_bytes c.args.words.now)) (g.F.Files.told c.args.files.now)
    (g.F.Files.told c.carry_out.new.files) (g.C.Console.told c.args.console.now)
    (g.C.Console.told c.carry_out.new.console) c.in-Ok.status c.in-Ok.ensures.causes
    c.in-Ok.ensures.gives

pub returns-in-Err-clause-ran : goal.returns-in-Err-clause-ran
returns-in-Err-clause-ran g c = ran_early (asked (map string_bytes c.args.words.now))
    c.carry_out.new.work (g.F.Files.told c.args.files.now) (g.F.Files.told c.carry_out.new.files)
    (g.C.Console.told c.args.console.now) (g.C.Console.told c.carry_out.new.console)
    (g.C.Console.told c.end_early.new.console) c.in-Err.halt c.end_early.result c.in-Err.ensures.ran
    c.end_early.ensures

pub returns-in-Err-clause-forced : goal.returns-in-Err-clause-forced
returns-in-Err-clause-forced g c =
    forced_ran c.announced_claims_are_forced.ensures (asked (map string_bytes c.args.words.now))
    c.carry_out.new.work (g.F.Files.told c.args.files.now) (g.F.Files.told c.carry_out.new.files)
    (g.C.Console.told c.args.console.now)
    (g.C.Console.told c.end_early.new.console) c.end_early.result
    (ran_early (asked (map string_bytes c.args.words.now)) c.carry_out.new.work
    (g.F.Files.told c.args.files.now) (g.F.Files.told c.carry_out.new.files)
    (g.C.Console.told c.args.console.now) (g.C.Console.told c.carry_out.new.console)
    (g.C.Console.told c.end_early.new.console) c.in-Err.halt c.end_early.result c.in-Err.ensures.ran
    c.end_early.ensures)

pub returns-in-Err-clause-silent : goal.returns-in-Err-clause-silent
returns-in-Err-clause-silent g c =
    silent_early (asked (map string_bytes c.args.words.now)) (g.C.Console.told c.args.console.now)
    (g.C.Console.told c.carry_out.new.console) (g.C.Console.told c.end_early.new.console)
    c.in-Err.halt c.end_early.result c.in-Err.ensures.quiet c.end_early.ensures

pub returns-in-Err-clause-statuses : goal.returns-in-Err-clause-statuses
returns-in-Err-clause-statuses g c = status_early (asked (map string_bytes c.args.words.now))
    (g.C.Console.told c.carry_out.new.console) (g.C.Console.told c.end_early.new.console)
    c.in-Err.halt c.end_early.result c.in-Err.ensures.gives c.end_early.ensures

pub returns-in-Err-clause-words : goal.returns-in-Err-clause-words
returns-in-Err-clause-words g c = meaningless_early (asked (map string_bytes c.args.words.now))
    (g.C.Console.told c.args.console.now) (g.C.Console.told c.carry_out.new.console)
    (g.C.Console.told c.end_early.new.console) c.in-Err.halt c.end_early.result
    c.in-Err.ensures.gives c.in-Err.ensures.quiet c.end_early.ensures

pub returns-in-Err-clause-causes : goal.returns-in-Err-clause-causes
returns-in-Err-clause-causes g c = cause_early
    (IsLacking (g.F.Files.told c.args.files.now).held (asked (map string_bytes c.args.words.now)))
    (g.F.Files.told c.args.files.now) (g.F.Files.told c.carry_out.new.files)
    (g.C.Console.told c.args.console.now) (g.C.Console.told c.carry_out.new.console)
    (g.C.Console.told c.end_early.new.console) c.in-Err.halt c.end_early.result
    c.in-Err.ensures.causes c.end_early.ensures

pub returns-in-Err-clause-prompt : goal.returns-in-Err-clause-prompt
returns-in-Err-clause-prompt g c =
    in_time_early (g.F.Files.told c.args.files.now).held (asked (map string_bytes c.args.words.now))
    c.args.work.now c.carry_out.new.work (g.C.Console.told c.args.console.now)
    (g.C.Console.told c.carry_out.new.console) (g.C.Console.told c.end_early.new.console)
    c.in-Err.halt c.end_early.result c.in-Err.ensures.prompt c.end_early.ensures
