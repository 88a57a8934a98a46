use Rattle.std.proofs.Common.{subst, sym}
use Rattle.pg_cli.proofs.Common.{err_from_is_err_and, Bytes}
use Rattle.pg_cli.specs.Reporting.{Accounts}
use Rattle.pg_cli.proofs.Reports.{reported, unreported}
use Rattle.pg_cli.proofs.reporting.report_on.Goals as goal

pub returns-in_err-say_text-clause-reported : goal.returns-in_err-say_text-clause-reported
returns-in_err-say_text-clause-reported g c =
    let p = err_from_is_err_and c.from_residual-in_err-say_text.result
    c.from_residual-in_err-say_text.ensures.1 in
    λ e found. rw (p.1, p.2)
    (unreported c.args.game.now e (g.C.Console.told c.args.console.now)
    (g.C.Console.told c.say_text.new.console) c.in_err-say_text.field-0.0
    c.in_err-say_text.ensures.said c.in_err-say_text.ensures.left)

pub returns-clause-reported : goal.returns-clause-reported
returns-clause-reported g c =
    let status = c.in_ok-told.told.1 in
    λ e found.
    let told = subst (λ (t : Bytes). Accounts c.args.game.now e t status)
    (sym c.as_str.ensures.value) (c.in_ok-told.ensures.told e found) in
    reported c.args.game.now e (g.C.Console.told c.args.console.now)
    (g.C.Console.told c.say_text.new.console) c.as_str.result.now status told
    c.in_ok-say_text.ensures.said c.in_ok-say_text.ensures.left
