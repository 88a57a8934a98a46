use Rattle.std.proofs.lemmas.Result.{err_from_is_err_and}
use Rattle.pg_cli.proofs.Runs.{halted_report}
use Rattle.pg_cli.proofs.Verdicts.{report_carries, opens_err}
use Rattle.pg_cli.proofs.reporting.report.Goals as goal

pub returns-in_err-judged-clause-ran : goal.returns-in_err-judged-clause-ran
returns-in_err-judged-clause-ran g c =
    let p = err_from_is_err_and c.from_residual.result c.from_residual.ensures.1 in
    λ work. rw (p.1, p.2)
    (halted_report (g.F.Files.told c.args.files.now) (g.F.Files.told c.judge_both.new.files)
    (g.C.Console.told c.args.console.now) c.judge_both.ensures.kept.held c.args.game.now
    c.args.certificate.now work _
    (opens_err (g.F.Files.told c.args.files.now).held _ _ _ c.in_err-judged.ensures.judged))

pub returns-clause-ran : goal.returns-clause-ran
returns-clause-ran g c = λ work. report_carries (g.F.Files.told c.args.files.now)
    (g.F.Files.told c.judge_both.new.files) c.args.game.now c.args.certificate.now
    c.in_ok-judged.judged (g.C.Console.told c.args.console.now)
    (g.C.Console.told c.report_on.new.console) c.judge_both.ensures.kept.held
    c.in_ok-judged.ensures.judged work c.report_on.result c.report_on.ensures.reported
